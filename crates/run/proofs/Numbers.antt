-- Bits as numbers, and the first bit at which they differ.
use Rattle.std.proofs.Common.{◌≡◌, ℕ, zero, suc, ◌+◌, ◌*◌, ◌<◌, Bool, true, false, cond, ◌⊎◌, inl, inr, arith}
use Rattle.std.proofs.lemmas.Bool.{cases_lt}
use Rattle.std.proofs.lemmas.Bool.Decides.{nat_tests}
use Rattle.engine.specs.Ops.{Bits, Agree, spelt}
use Rattle.search.specs.Least.{Below}

half_same : (x y : ℕ) (p q : Bool) → 2 * x + cond p 1 0 ≡ 2 * y + cond q 1 0 → (x ≡ y) × (p ≡ q)
half_same x y p q e = grind (arith, nat_tests)

-- equal numbers have the same bits
pub number_same : (n : ℕ) (s t : Bits) → spelt n s ≡ spelt n t → Agree n s t
number_same zero s t e v l h = absurd (omega arith)
number_same (suc n) s t e v l h =
    let halves = half_same (spelt n s) (spelt n t) (s (suc n)) (t (suc n)) e in
    elim (cases_lt n v) [ inl m ↦ (let q : v ≡ suc n = omega arith in rw q halves.1) | inr m ↦ number_same n s t halves.0 v l m ]

half_less : (x y : ℕ) (p q : Bool) → 2 * x + cond p 1 0 < 2 * y + cond q 1 0 → (x < y) ⊎ ((x ≡ y) × ((p ≡ false) × (q ≡ true)))
half_less x y p q h = grind (arith, nat_tests)

-- the smaller number has the 0 at the first bit at which they differ
pub number_below : (n : ℕ) (s t : Bits) → spelt n s < spelt n t → Below n s t
number_below zero s t h = absurd (omega arith)
number_below (suc n) s t h =
    elim (half_less (spelt n s) (spelt n t) (s (suc n)) (t (suc n)) h) [
      | inl l ↦ (let b = number_below n s t l in record { at = b.at; from = b.from; to = omega arith; before = b.before; low = b.low; high = b.high })
      | inr e ↦ record { at = suc n; from = omega arith; to = omega arith; before = λ u a b. number_same n s t e.0 u a (omega arith); low = e.1.0; high = e.1.1 }
    ]
