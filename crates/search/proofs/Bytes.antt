-- Single bits of a byte.
use Rattle.std.proofs.Common.{◌≡◌, ℕ, zero, suc, ◌-◌, ◌/◌, ◌%◌, ◌^◌, ◌<◌, ◌≤◌, Bool, true, false, cond, eqb, ◌⊎◌, List, length, get_or, set, sym, refl, ap, ◌∙◌, inl, inr, arith, get_or-set_other, get_or-set_same, eq-eqb, ne_eqb, eqb-true}
use lib.Bits.{bit_or, or_zero_r}
use Rattle.std.proofs.lemmas.Bool.{cases_eq}
use Rattle.std.proofs.lemmas.Nat.{or_shr, or_mod}
use Rattle.engine.specs.Ops.{bit_at}
use Rattle.engine.proofs.Tables.{each, each_at}
use Rattle.search.specs.Assigned.{Assigned}

-- whether bit k of 2 ^ j is as it should be
abbrev lone : ℕ → ℕ → Bool
lone j k = eqb ((2 ^ j / 2 ^ k) % 2) (cond (eqb j k) 1 0)

-- bit k of 2 ^ j
pow_bit : (j k : ℕ) → j < 8 → k < 8 → (2 ^ j / 2 ^ k) % 2 ≡ cond (eqb j k) 1 0
pow_bit j k h l = eqb-true ((2 ^ j / 2 ^ k) % 2) (cond (eqb j k) 1 0) (each_at 8 (lone j) (each_at 8 (λ i. each 8 (lone i)) refl j h) k l)

or_one : (x : ℕ) → x < 2 → bit_or x 1 ≡ 1
or_one zero h = refl
or_one (suc zero) h = refl
or_one (suc (suc x)) h = absurd (omega arith)

-- bit k of a byte in which bit j was raised
raised_bit : (b j k : ℕ) → j < 8 → k < 8 → (bit_or b (2 ^ j) / 2 ^ k) % 2 ≡ cond (eqb j k) 1 ((b / 2 ^ k) % 2)
raised_bit b j k h l = ap (λ x. x % 2) (or_shr b (2 ^ j) k) ∙ or_mod (b / 2 ^ k) (2 ^ j / 2 ^ k) 1 ∙ ap (bit_or ((b / 2 ^ k) % 2)) (pow_bit j k h l) ∙ go (eqb j k)
  where
    go : (c : Bool) → bit_or ((b / 2 ^ k) % 2) (cond c 1 0) ≡ cond c 1 ((b / 2 ^ k) % 2)
    go true = or_one ((b / 2 ^ k) % 2) (omega arith)
    go false = or_zero_r ((b / 2 ^ k) % 2)

pub raised : (s : List ℕ) (v : ℕ) → 1 ≤ v → v ≤ 144 → length s ≡ 18 → Assigned s v true (set s ((v - 1) / 8) (bit_or (get_or s ((v - 1) / 8) 0) (2 ^ (7 - (v - 1) % 8))))
raised s v from to long u a b = go (cases_eq ((u - 1) / 8) ((v - 1) / 8))
  where
    at : ℕ
    at = (v - 1) / 8

    byte : ℕ
    byte = bit_or (get_or s at 0) (2 ^ (7 - (v - 1) % 8))

    same : eqb (7 - (v - 1) % 8) (7 - (u - 1) % 8) ≡ eqb u v → (u - 1) / 8 ≡ at → eqb ((get_or (set s at byte) ((u - 1) / 8) 0 / 2 ^ (7 - (u - 1) % 8)) % 2) 1 ≡ cond (eqb u v) true (bit_at s u)
    same q e = ap (λ x. eqb ((x / 2 ^ (7 - (u - 1) % 8)) % 2) 1) (ap (λ i. get_or (set s at byte) i 0) e ∙ get_or-set_same s at byte 0 (omega arith))
        ∙ ap (λ x. eqb x 1) (raised_bit (get_or s at 0) (7 - (v - 1) % 8) (7 - (u - 1) % 8) (omega arith) (omega arith) ∙ rw q refl)
        ∙ pick (eqb u v)
      where
        pick : (c : Bool) → eqb (cond c 1 ((get_or s at 0 / 2 ^ (7 - (u - 1) % 8)) % 2)) 1 ≡ cond c true (bit_at s u)
        pick true = refl
        pick false = ap (λ i. eqb ((get_or s i 0 / 2 ^ (7 - (u - 1) % 8)) % 2) 1) (sym e)

    go : ((u - 1) / 8 ≡ (v - 1) / 8) ⊎ ((u - 1) / 8 ≡ (v - 1) / 8 → ⊥) → bit_at (set s at byte) u ≡ cond (eqb u v) true (bit_at s u)
    go (inl e) = same (here (cases_eq u v)) e
      where
        here : (u ≡ v) ⊎ (u ≡ v → ⊥) → eqb (7 - (v - 1) % 8) (7 - (u - 1) % 8) ≡ eqb u v
        here (inl q) = eq-eqb (7 - (v - 1) % 8) (7 - (u - 1) % 8) (omega arith) ∙ sym (eq-eqb u v q)
        here (inr n) = ne_eqb (7 - (v - 1) % 8) (7 - (u - 1) % 8) (λ q. n (omega arith)) ∙ sym (ne_eqb u v n)
    go (inr n) = ap (λ x. eqb ((x / 2 ^ (7 - (u - 1) % 8)) % 2) 1) (get_or-set_other s at ((u - 1) / 8) byte 0 n) ∙ rw (ne_eqb u v (λ q. n (ap (λ x. (x - 1) / 8) q))) refl
