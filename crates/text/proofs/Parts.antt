-- Splitting a text at a byte.
use Rattle.std.proofs.Common.{◌≡◌, ℕ, suc, ◌+◌, ◌<◌, ◌≤◌, true, false, not, cond, eqb, ltb, List, [], ◌∷◌, length, get_or, take, drop, Some, None, refl, ◌∙◌, arith, add-one, eq-eqb, ne_eqb}
use lib.Dec.{leb-suc-suc, leb-zero}
use Rattle.std.proofs.lemmas.Bool.{lt-ltb, le-ltb}
use Rattle.std.proofs.lemmas.Bool.Decides.{nat_tests}
use Rattle.std.proofs.lemmas.List.{take_all, drop_more}
use Rattle.text.specs.Split.{Part, before, place_of, grow, split}

-- the byte here is the first c
pub before_here : (c : ℕ) (xs : List ℕ) (i : ℕ) → i < length xs → get_or xs i 0 ≡ c → before c (drop i xs) ≡ 0
before_here c xs i h e = rw (drop_more xs i 0 h, eq-eqb (get_or xs i 0) c e) refl

-- the byte here is another
pub before_more : (c : ℕ) (xs : List ℕ) (i : ℕ) → i < length xs → (get_or xs i 0 ≡ c → ⊥) → before c (drop i xs) ≡ suc (before c (drop (i + 1) xs))
before_more c xs i h e = rw (drop_more xs i 0 h, ne_eqb (get_or xs i 0) c e) (omega arith)

-- the parts behind the first n bytes and one more
abbrev pub behind : ℕ → ℕ → ℕ → List ℕ → List Part
behind c p n xs = cond (ltb n (length xs)) (split c (suc (p + n)) (drop (suc n) xs)) []

-- a split text is the bytes before the first c, and the parts behind it
pub split_is : (c p : ℕ) (xs : List ℕ) → split c p xs ≡ record { place = p; text = take (before c xs) xs } ∷ behind c p (before c xs) xs
split_is c p [] = refl
split_is c p (x ∷ xs) =
    let o : 1 + before c xs ≡ suc (before c xs) = omega arith in
    elim (eqb x c) as (λ b. cond b (record { place = p; text = [] } ∷ split c (p + 1) xs) (grow p x (split c (p + 1) xs)) ≡ record { place = p; text = take (cond (not b) (1 + before c xs) 0) (x ∷ xs) } ∷ behind c p (cond (not b) (1 + before c xs) 0) (x ∷ xs)) [
      | true ↦ let e : p + 1 ≡ suc (p + 0) = omega arith in rw (leb-suc-suc, leb-zero, e) refl
      | false ↦ let e : suc (p + 1 + before c xs) ≡ suc (p + suc (before c xs)) = omega arith in rw (split_is c (p + 1) xs, o, leb-suc-suc, e) refl
    ]

-- a text without c is one part
pub split_whole : (c p : ℕ) (xs : List ℕ) → None ≡ place_of c xs → split c p xs ≡ record { place = p; text = xs } ∷ []
split_whole c p xs e =
    let l : length xs ≤ before c xs = grind (arith, nat_tests) in
    split_is c p xs ∙ rw (le-ltb (before c xs) (length xs) l, take_all (before c xs) xs l) refl

-- a text whose first c is at n is the part before it and the parts behind it
pub split_at : (c p n : ℕ) (xs : List ℕ) → Some n ≡ place_of c xs → split c p xs ≡ record { place = p; text = take n xs } ∷ split c (p + n + 1) (drop (n + 1) xs)
split_at c p n xs e =
    let b : n ≡ before c xs = grind (arith, nat_tests) in
    let l : n < length xs = grind (arith, nat_tests) in
    rw (split_is c p xs, ← b, lt-ltb n (length xs) l, add-one (p + n), add-one n) refl
