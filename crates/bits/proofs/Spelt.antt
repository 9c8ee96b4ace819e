-- Numbers and the bits that spell them.
use Rattle.std.proofs.Common.{◌≡◌, ℕ, zero, suc, ◌+◌, ◌-◌, ◌*◌, ◌/◌, ◌%◌, ◌^◌, ◌<◌, ◌≤◌, Bool, true, false, cond, eqb, ◌⊎◌, sym, refl, ap, ◌∙◌, inl, inr, ⊎_elim, mod-lt, arith, lit<}
use native.Mathlib.Decide.{dec_lt}
use native.Mathlib.Nat.{pow-succ', div-div-eq-div-mul}
use Rattle.std.proofs.lemmas.Bool.{cases_lt}
use Rattle.engine.specs.Ops.{Bits, Agree, spelt}

-- bit i, from 1, of a number of n bits, the highest first
abbrev pub bit_of : ℕ → ℕ → ℕ → Bool
bit_of n v i = eqb (v / 2 ^ (n - i) % 2) 1

-- a bit as a number
abbrev digit : Bool → ℕ
digit b = cond b 1 0

small : (b : Bool) → digit b ≤ 1
small true = omega arith
small false = omega arith

told : (b : Bool) (x : ℕ) → x ≡ digit b → eqb x 1 ≡ b
told true x e = rw e refl
told false x e = rw e refl

low : (x : ℕ) → digit (eqb (x % 2) 1) ≡ x % 2
low x = go (x % 2) (two (x % 2) (mod-lt x (lit< tt)))
  where
    two : (y : ℕ) → y < 2 → (y ≡ 0) ⊎ (y ≡ 1)
    two y h = elim (dec_lt y 1) [ yes p ↦ inl (omega arith) | no p ↦ inr (omega arith) ]

    go : (y : ℕ) → (y ≡ 0) ⊎ (y ≡ 1) → digit (eqb y 1) ≡ y
    go y (inl p) = rw p refl
    go y (inr p) = rw p refl

-- a higher bit is a bit of the half
halved : (x k : ℕ) → x / 2 ^ suc k ≡ x / 2 / 2 ^ k
halved x k = ap (λ n. x / n) (pow-succ' 2 k) ∙ sym (div-div-eq-div-mul x 2 (2 ^ k))

half_bit : (n x i : ℕ) → i ≤ n → bit_of (suc n) x i ≡ bit_of n (x / 2) i
half_bit n x i h =
    let e : suc n - i ≡ suc (n - i) = omega arith in
    ap (λ k. eqb (x / 2 ^ k % 2) 1) e ∙ ap (λ y. eqb (y % 2) 1) (halved x (n - i))

last_bit : (n x : ℕ) → bit_of (suc n) x (suc n) ≡ eqb (x % 2) 1
last_bit n x =
    let e : suc n - suc n ≡ 0 = omega arith in
    let f : x / 1 % 2 ≡ x % 2 = omega arith in
    ap (λ k. eqb (x / 2 ^ k % 2) 1) e ∙ ap (λ y. eqb y 1) f

pub spelt_only : (n : ℕ) (s t : Bits) → Agree n s t → spelt n s ≡ spelt n t
spelt_only zero s t h = refl
spelt_only (suc n) s t h =
    let e : spelt n s ≡ spelt n t = spelt_only n s t (λ v l m. h v l (omega arith)) in
    let f : s (suc n) ≡ t (suc n) = h (suc n) (omega arith) (omega arith) in
    rw (e, f) refl

-- the number that n bits spell has those bits
pub spelt_bit : (n : ℕ) (s : Bits) (i : ℕ) → 1 ≤ i → i ≤ n → bit_of n (spelt n s) i ≡ s i
spelt_bit zero s i l h = absurd (omega arith)
spelt_bit (suc n) s i l h = ⊎_elim (λ p. upper (omega arith) (spelt_bit n s i l (omega arith))) (λ p. lower (omega arith)) (cases_lt i (suc n))
  where
    half : (x y : ℕ) → y ≤ 1 → (2 * x + y) / 2 ≡ x
    half x y h = omega arith

    rest : (x y : ℕ) → y ≤ 1 → (2 * x + y) % 2 ≡ y
    rest x y h = omega arith

    upper : i ≤ n → bit_of n (spelt n s) i ≡ s i → bit_of (suc n) (spelt (suc n) s) i ≡ s i
    upper p e = half_bit n (spelt (suc n) s) i p ∙ ap (λ x. bit_of n x i) (half (spelt n s) (digit (s (suc n))) (small (s (suc n)))) ∙ e

    lower : i ≡ suc n → bit_of (suc n) (spelt (suc n) s) i ≡ s i
    lower p =
        ap (bit_of (suc n) (spelt (suc n) s)) p ∙ last_bit n (spelt (suc n) s) ∙ told (s (suc n)) ((2 * spelt n s + digit (s (suc n))) % 2) (rest (spelt n s) (digit (s (suc n))) (small (s (suc n)))) ∙ ap s (sym p)

-- bits that are those of a number spell it
pub number_spelt : (n x : ℕ) (s : Bits) → x < 2 ^ n → ((i : ℕ) → 1 ≤ i → i ≤ n → s i ≡ bit_of n x i) → spelt n s ≡ x
number_spelt zero x s h e = omega arith
number_spelt (suc n) x s h e =
    let b : x / 2 < 2 ^ n = omega (arith, pow-succ' 2 n) in
    let f : spelt n s ≡ x / 2 = number_spelt n (x / 2) s b (λ i l m. e i l (omega arith) ∙ half_bit n x i m) in
    let g : digit (s (suc n)) ≡ x % 2 = ap digit (e (suc n) (omega arith) (omega arith) ∙ last_bit n x) ∙ low x in
    let y : 2 * spelt n s + digit (s (suc n)) ≡ 2 * (x / 2) + x % 2 = rw (f, g) refl in
    omega (arith, y)

-- numbers of n bits that have the same bits are the same
pub same_bits : (n x y : ℕ) → x < 2 ^ n → y < 2 ^ n → ((i : ℕ) → 1 ≤ i → i ≤ n → bit_of n x i ≡ bit_of n y i) → x ≡ y
same_bits n x y h g e = sym (number_spelt n x (bit_of n x) h (λ i l m. refl)) ∙ number_spelt n y (bit_of n x) g e
