-- The first `::` among the pairs of neighbouring bytes.
use Rattle.std.proofs.Common.{◌≡◌, ℕ, suc, ◌+◌, Bool, true, false, cond, not, ◌&&◌, ltb, eqb, List, [], ◌∷◌, length, drop, Some, None, Option, refl, ap, ◌∙◌, arith}
use Rattle.std.proofs.lemmas.Bool.Decides.{nat_tests}
use Rattle.std.specs.Iterator.{AlwaysYields}
use Rattle.std.specs.List.{position_or_len}
use Rattle.std.specs.declared.slice.Windows.{Windows}
use Rattle.std.specs.Slice.Iter.{windows_rest, windows_size, windows_steps}
use Rattle.std.specs.Str.{bytes_eq}
use Rattle.std.proofs.lemmas.Iterator.{YieldsList}
use Rattle.address.specs.Address.{before_gap_of, gap_of}

-- each byte but the last, with the next one
abbrev pub pairs : List ℕ → List (List ℕ)
pairs [] = []
pairs (x ∷ []) = []
pairs (x ∷ y ∷ ys) = (x ∷ y ∷ []) ∷ pairs (y ∷ ys)

pairs_give : (xs : List ℕ) (s : Windows ℕ) → windows_size s ≡ 2 → windows_rest s ≡ xs → AlwaysYields windows_steps (λ w. w.now) s (pairs xs)
pairs_give [] s z e = λ x j p. omega (arith, p.1.0, ap length e)
pairs_give (x ∷ []) s z e = λ w j p. omega (arith, p.1.0, ap length e)
pairs_give (x ∷ y ∷ ys) s z e = (
  λ j p. omega (arith, p.1.0, ap length e),
  λ w j p. (p.1.1 ∙ rw (z, e) refl, pairs_give (y ∷ ys) j (p.0 ∙ z) (p.1.2 ∙ ap (drop 1) e)),
)

-- the windows of two bytes are the pairs
pub pairs_from_windows : {s : Windows ℕ} (xs : List ℕ) → windows_size s ≡ 2 → windows_rest s ≡ xs → YieldsList windows_steps (λ w. w.now) s (pairs xs)
pairs_from_windows {s} xs z e = record { runs = pairs_give xs s z e }

-- a pair is `::`
abbrev pub is_gap : List ℕ → Bool
is_gap pair = bytes_eq pair (58 ∷ 58 ∷ [])

-- where a number is below another
abbrev pub below : ℕ → ℕ → Option ℕ
below n m = cond (ltb n m) (Some n) None

one_more : (a b : Bool) (p l q n : ℕ) → below p l ≡ below q n → below (cond (not (a && (b && true))) (1 + p) 0) (suc l) ≡ below (cond (a && b) 0 (suc q)) (suc n)
one_more true true p l q n h = grind (arith, nat_tests)
one_more true false p l q n h = grind (arith, nat_tests)
one_more false b p l q n h = grind (arith, nat_tests)

-- the first pair that is `::` begins the first `::`
pub gap_pairs : (xs : List ℕ) → below (position_or_len is_gap (pairs xs)) (length (pairs xs)) ≡ gap_of xs
gap_pairs [] = refl
gap_pairs (x ∷ []) = refl
gap_pairs (x ∷ y ∷ ys) = one_more (eqb x 58) (eqb y 58) (position_or_len is_gap (pairs (y ∷ ys))) (length (pairs (y ∷ ys))) (before_gap_of (y ∷ ys)) (length (y ∷ ys)) (gap_pairs (y ∷ ys))
