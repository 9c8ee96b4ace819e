-- The numbers that assignments spell.
use Rattle.std.specs.Prelude.{◌≡◌, ℕ, zero, suc, ◌+◌, ◌-◌, ◌*◌, ◌/◌, ◌%◌, ◌^◌, ◌<◌, ◌≤◌, Bool, true, false, cond, ◌⊎◌, List, nat_eq, slice_index, slice_index_or, refl}
use Rattle.std.proofs.Common.{sym, ap, ◌∙◌, inl, inr, arith, mod-eq_of_lt, shr-shr, lit<}
use Rattle.std.proofs.Math.Nat.{mod-one, pow-succ', div-eq_of_lt, pow-le-pow_right}
use Rattle.std.proofs.Math.Decide.{dec_lt}
use Rattle.std.proofs.lemmas.Nat.{mod-pow-add}
use Rattle.std.proofs.lemmas.Bool.{eq-eqb, ne_eqb}
use Rattle.engine.specs.Ops.{Bits, Agree, held, bit_at, spelt}
use Rattle.word.specs.Words.{bit, spell}
use Rattle.word.specs.Bits.{bit_low, bit_up, halved, digit, low_digit}

-- only variables 1 to n count
pub same_spelt : (n : ℕ) (s t : Bits) → Agree n s t → spelt n s ≡ spelt n t
same_spelt zero s t h = refl
same_spelt (suc n) s t h =
    let e : spelt n s ≡ spelt n t = same_spelt n s t (λ v a b. h v a (omega arith)) in
    let b : s (suc n) ≡ t (suc n) = h (suc n) (omega arith) (omega arith) in
    rw (e, b) refl

cond_le : (b : Bool) → cond b 1 0 ≤ 1
cond_le true = omega arith
cond_le false = omega arith

pub spelt_below : (n : ℕ) (s : Bits) → spelt n s < 2 ^ n
spelt_below zero s = lit< tt
spelt_below (suc n) s = omega (arith, spelt_below n s, pow-succ' 2 n, cond_le (s (suc n)))

pub below_64 : (n : ℕ) (s : Bits) → n ≤ 6 → spelt n s < 64
below_64 n s h = let p : 2 ^ n ≤ 2 ^ 6 = pow-le-pow_right (lit< tt) h in omega (arith, spelt_below n s)

top_or : (v n : ℕ) → v ≤ suc n → (v ≡ suc n) ⊎ (v ≤ n)
top_or v n h = elim (dec_lt n v) [ yes p ↦ inl (omega arith) | no p ↦ inr (omega arith) ]

-- variable v is bit n - v of the number
pub spelt_bit : (n v : ℕ) (s : Bits) → 1 ≤ v → v ≤ n → bit (spelt n s) (n - v) ≡ s v
spelt_bit zero v s h k = absurd (omega arith)
spelt_bit (suc n) v s h k = go (λ l. spelt_bit n v s h l) (top_or v n k)
  where
    go : (v ≤ n → bit (spelt n s) (n - v) ≡ s v) → (v ≡ suc n) ⊎ (v ≤ n) → bit (spelt (suc n) s) (suc n - v) ≡ s v
    go less (inl e) =
        let z : suc n - v ≡ 0 = omega arith in
        ap (λ (j : ℕ). bit (spelt (suc n) s) j) z ∙ bit_low (spelt n s) (s (suc n)) ∙ ap s (sym e)
    go less (inr l) =
        let z : suc n - v ≡ suc (n - v) = omega arith in
        ap (λ (j : ℕ). bit (spelt (suc n) s) j) z ∙ bit_up (spelt n s) (n - v) (s (suc n)) ∙ less l

-- what holding a variable does to the number
pub spelt_held : (n v : ℕ) (b : Bool) (s : Bits) → 1 ≤ v → v ≤ n → spelt n (held s v b) + cond (s v) (2 ^ (n - v)) 0 ≡ spelt n s + cond b (2 ^ (n - v)) 0
spelt_held zero v b s h k = absurd (omega arith)
spelt_held (suc n) v b s h k = go (λ l. spelt_held n v b s h l) (top_or v n k)
  where
    top : (x y : ℕ) (p q : Bool) → x ≡ y → (2 * x + cond q 1 0) + cond p 1 0 ≡ (2 * y + cond p 1 0) + cond q 1 0
    top x y p q e = omega arith

    below : (x y z c : ℕ) (p q : Bool) → x + cond p z 0 ≡ y + cond q z 0 → (2 * x + c) + cond p (2 * z) 0 ≡ (2 * y + c) + cond q (2 * z) 0
    below x y z c true true e = omega arith
    below x y z c true false e = omega arith
    below x y z c false true e = omega arith
    below x y z c false false e = omega arith

    go : (v ≤ n → spelt n (held s v b) + cond (s v) (2 ^ (n - v)) 0 ≡ spelt n s + cond b (2 ^ (n - v)) 0) → (v ≡ suc n) ⊎ (v ≤ n) → spelt (suc n) (held s v b) + cond (s v) (2 ^ (suc n - v)) 0 ≡ spelt (suc n) s + cond b (2 ^ (suc n - v)) 0
    go less (inl e) =
        let z : suc n - v ≡ 0 = omega arith in
        let q : nat_eq (suc n) v ≡ true = eq-eqb (suc n) v (sym e) in
        let same : spelt n (held s v b) ≡ spelt n s = same_spelt n (held s v b) s (λ w l m. let f : nat_eq w v ≡ false = ne_eqb w v (λ x. omega arith) in rw f refl) in
        rw (z, q, ap s e) (top (spelt n (held s v b)) (spelt n s) (s (suc n)) b same)
    go less (inr l) =
        let z : suc n - v ≡ suc (n - v) = omega arith in
        let p : 2 ^ suc (n - v) ≡ 2 * 2 ^ (n - v) = pow-succ' 2 (n - v) in
        let q : nat_eq (suc n) v ≡ false = ne_eqb (suc n) v (λ x. omega arith) in
        rw (z, p, q) (below (spelt n (held s v b)) (spelt n s) (2 ^ (n - v)) (cond (s (suc n)) 1 0) (s v) b (less l))

half_mod : (i n : ℕ) → 2 * (i / 2 % 2 ^ n) + i % 2 ≡ i % 2 ^ suc n
half_mod i n =
    let e : i % 2 ^ (n + 1) ≡ (i / 2 ^ 1 % 2 ^ n) * 2 ^ 1 + i % 2 ^ 1 = mod-pow-add i n 1 in
    let f : n + 1 ≡ suc n = omega arith in
    let g : i % 2 ^ suc n ≡ (i / 2 % 2 ^ n) * 2 + i % 2 = ap (λ (k : ℕ). i % 2 ^ k) (sym f) ∙ e in
    omega arith

spell_half : (n i : ℕ) → spelt n (spell (suc n) i) ≡ spelt n (spell n (i / 2))
spell_half n i = same_spelt n (spell (suc n) i) (spell n (i / 2)) (λ v a b. let z : suc n - v ≡ suc (n - v) = omega arith in ap (λ (j : ℕ). bit i j) z ∙ halved i (n - v))

spell_last : (n i : ℕ) → cond (spell n i n) 1 0 ≡ i % 2
spell_last n i = let z : n - n ≡ 0 = omega arith in ap (λ (j : ℕ). cond (bit i j) 1 0) z ∙ low_digit i

join : (x y d e : ℕ) → x ≡ y → d ≡ e → 2 * x + d ≡ 2 * y + e
join x y d e p q = omega arith

pub spelt_spell : (n i : ℕ) → spelt n (spell n i) ≡ i % 2 ^ n
spelt_spell zero i = sym (mod-one i)
spelt_spell (suc n) i = join (spelt n (spell (suc n) i)) (i / 2 % 2 ^ n) (cond (spell (suc n) i (suc n)) 1 0) (i % 2) (spell_half n i ∙ spelt_spell n (i / 2)) (spell_last (suc n) i) ∙ half_mod i n

-- the bits of the first byte, from the top
first_bit : (n : ℕ) (bytes : List ℕ) → n < 8 → cond (bit_at bytes (suc n)) 1 0 ≡ slice_index bytes 0 / 2 ^ (7 - n) % 2
first_bit n bytes h =
    let a : suc n - 1 ≡ n = omega arith in
    let q : n / 8 ≡ 0 = div-eq_of_lt h in
    let r : n % 8 ≡ n = mod-eq_of_lt h in
    rw (a, q, r) (digit (slice_index bytes 0 / 2 ^ (7 - n)))

twice : (x m k : ℕ) → k ≡ m + 1 → 2 * (x / 2 ^ k) + x / 2 ^ m % 2 ≡ x / 2 ^ m
twice x m k e = let u : x / 2 ^ m / 2 ^ 1 ≡ x / 2 ^ (m + 1) = shr-shr x m 1 in rw e (omega arith)

-- the first variables of bytes spell the top of the first byte
pub spelt_byte : (n : ℕ) (bytes : List ℕ) → slice_index bytes 0 < 256 → n ≤ 8 → spelt n (bit_at bytes) ≡ slice_index bytes 0 / 2 ^ (8 - n)
spelt_byte zero bytes h k = sym (div-eq_of_lt h)
spelt_byte (suc n) bytes h k =
    let x : ℕ = slice_index_or bytes 0 0 in
    let c : 7 - n ≡ 8 - suc n = omega arith in
    join (spelt n (bit_at bytes)) (x / 2 ^ (8 - n)) (cond (bit_at bytes (suc n)) 1 0) (x / 2 ^ (7 - n) % 2) (spelt_byte n bytes h (omega arith)) (first_bit n bytes (omega arith))
    ∙ twice x (7 - n) (8 - n) (omega arith)
    ∙ ap (λ (m : ℕ). x / 2 ^ m) c
