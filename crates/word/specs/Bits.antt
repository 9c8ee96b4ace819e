-- Bits of numbers.
use Rattle.std.specs.Prelude.{◌≡◌, ℕ, zero, suc, ◌+◌, ◌-◌, ◌*◌, ◌/◌, ◌%◌, ◌^◌, ◌<◌, Bool, true, false, cond, not, ◌&&◌, ◌⊎◌, ◌==◌, nat_eq, refl}
use Rattle.std.proofs.Common.{sym, ap, ◌∙◌, inl, inr, arith, div-one, shr-shr}
use Rattle.std.proofs.Math.Nat.{mod-one, pow-succ', zero-div}
use Rattle.std.proofs.Math.Decide.{dec_lt}
use Rattle.std.specs.Int.Bits.{bit_and, bit_xor}
use Rattle.std.proofs.Math.Pow.{field, mod-mod-pow}
use Rattle.std.proofs.lemmas.Nat.{pow_pos, and_shr, and_mod, xor_shr, xor_mod, shl-shr, mod-pow-add}
use Rattle.std.proofs.lemmas.Bool.{eq-eqb, ne_eqb}
use Rattle.engine.proofs.Tables.{each, each_at}
use Rattle.word.specs.Words.{bit, number}

-- a remainder by 2 is 0 or 1
odd_even : (x : ℕ) → (x % 2 ≡ 0) ⊎ (x % 2 ≡ 1)
odd_even x = elim (dec_lt (x % 2) 1) [ yes p ↦ inl (omega arith) | no p ↦ inr (omega arith) ]

pub bit_of_and : (a b i : ℕ) → bit (bit_and a b) i ≡ (bit a i && bit b i)
bit_of_and a b i =
    let e : (bit_and a b / 2 ^ i) % 2 ≡ bit_and ((a / 2 ^ i) % 2) ((b / 2 ^ i) % 2) = ap (λ (x : ℕ). x % 2) (and_shr a b i) ∙ and_mod (a / 2 ^ i) (b / 2 ^ i) 1 in
    ap (λ (x : ℕ). nat_eq x 1) e ∙ go ((a / 2 ^ i) % 2) ((b / 2 ^ i) % 2) (odd_even (a / 2 ^ i)) (odd_even (b / 2 ^ i))
  where
    go : (x y : ℕ) → (x ≡ 0) ⊎ (x ≡ 1) → (y ≡ 0) ⊎ (y ≡ 1) → (bit_and x y == 1) ≡ (x == 1 && y == 1)
    go x y (inl p) q = rw p refl
    go x y (inr p) (inl q) = rw (p, q) refl
    go x y (inr p) (inr q) = rw (p, q) refl

-- the bits differ
abbrev pub apart : Bool → Bool → Bool
apart true b = not b
apart false b = b

pub bit_of_xor : (a b i : ℕ) → bit (bit_xor a b) i ≡ apart (bit a i) (bit b i)
bit_of_xor a b i =
    let e : (bit_xor a b / 2 ^ i) % 2 ≡ bit_xor ((a / 2 ^ i) % 2) ((b / 2 ^ i) % 2) = ap (λ (x : ℕ). x % 2) (xor_shr a b i) ∙ xor_mod (a / 2 ^ i) (b / 2 ^ i) 1 in
    ap (λ (x : ℕ). nat_eq x 1) e ∙ go ((a / 2 ^ i) % 2) ((b / 2 ^ i) % 2) (odd_even (a / 2 ^ i)) (odd_even (b / 2 ^ i))
  where
    go : (x y : ℕ) → (x ≡ 0) ⊎ (x ≡ 1) → (y ≡ 0) ⊎ (y ≡ 1) → (bit_xor x y == 1) ≡ apart (x == 1) (y == 1)
    go x y (inl p) (inl q) = rw (p, q) refl
    go x y (inl p) (inr q) = rw (p, q) refl
    go x y (inr p) (inl q) = rw (p, q) refl
    go x y (inr p) (inr q) = rw (p, q) refl

-- where m is set the bit of a, elsewhere that of b
pub mux : (a b m i : ℕ) → bit (bit_xor b (bit_and (bit_xor a b) m)) i ≡ cond (bit m i) (bit a i) (bit b i)
mux a b m i =
    bit_of_xor b (bit_and (bit_xor a b) m) i
    ∙ ap (λ (x : Bool). apart (bit b i) x) (bit_of_and (bit_xor a b) m i ∙ ap (λ (x : Bool). x && bit m i) (bit_of_xor a b i))
    ∙ go (bit a i) (bit b i) (bit m i)
  where
    go : (x y z : Bool) → apart y (apart x y && z) ≡ cond z x y
    go true true true = refl
    go true true false = refl
    go true false true = refl
    go true false false = refl
    go false true true = refl
    go false true false = refl
    go false false true = refl
    go false false false = refl

pub zero_bit : (i : ℕ) → bit 0 i ≡ false
zero_bit i = ap (λ (y : ℕ). nat_eq (y % 2) 1) (zero-div (2 ^ i))

pub shr_bit : (w t i : ℕ) → bit (w / 2 ^ t) i ≡ bit w (i + t)
shr_bit w t i = let e : t + i ≡ i + t = omega arith in ap (λ (x : ℕ). nat_eq (x % 2) 1) (shr-shr w t i) ∙ ap (λ (j : ℕ). bit w j) e

-- the bits below k are those of the remainder
pub low_bit : (x k i : ℕ) → i < k → bit (x % 2 ^ k) i ≡ bit x i
low_bit x k i h =
    let j : ℕ = k - i - 1 in
    let e : k ≡ (j + 1) + i = omega arith in
    let f : x % 2 ^ ((j + 1) + i) / 2 ^ i ≡ x / 2 ^ i % 2 ^ (j + 1) = field x (j + 1) i in
    let g : x / 2 ^ i % 2 ^ (j + 1) % 2 ^ 1 ≡ x / 2 ^ i % 2 ^ 1 = mod-mod-pow (x / 2 ^ i) j 1 in
    ap (λ (m : ℕ). bit (x % 2 ^ m) i) e ∙ ap (λ (y : ℕ). nat_eq (y % 2) 1) f ∙ ap (λ (y : ℕ). nat_eq y 1) g

pub shl_bit : (w t i k : ℕ) → i + t < k → bit ((w * 2 ^ t) % 2 ^ k) (i + t) ≡ bit w i
shl_bit w t i k h = low_bit (w * 2 ^ t) k (i + t) h ∙ sym (shr_bit (w * 2 ^ t) t i) ∙ ap (λ (y : ℕ). bit y i) (shl-shr w t)

-- the lowest bit, and those above it
pub bit_low : (x : ℕ) (b : Bool) → bit (2 * x + cond b 1 0) 0 ≡ b
bit_low x true = let e : (2 * x + 1) / 1 % 2 ≡ 1 = omega arith in eq-eqb ((2 * x + 1) / 1 % 2) 1 e
bit_low x false = let e : (2 * x + 0) / 1 % 2 ≡ 0 = omega arith in ne_eqb ((2 * x + 0) / 1 % 2) 1 (λ q. omega arith)

pub halved : (w j : ℕ) → bit w (suc j) ≡ bit (w / 2) j
halved w j = let e : j + 1 ≡ suc j = omega arith in ap (λ (i : ℕ). bit w i) (sym e) ∙ sym (shr_bit w 1 j)

pub bit_up : (x j : ℕ) (b : Bool) → bit (2 * x + cond b 1 0) (suc j) ≡ bit x j
bit_up x j true = let e : (2 * x + 1) / 2 ≡ x = omega arith in halved (2 * x + 1) j ∙ ap (λ (y : ℕ). bit y j) e
bit_up x j false = let e : (2 * x + 0) / 2 ≡ x = omega arith in halved (2 * x + 0) j ∙ ap (λ (y : ℕ). bit y j) e

-- a bit as a number
pub digit : (x : ℕ) → cond (x % 2 == 1) 1 0 ≡ x % 2
digit x = go (x % 2) (odd_even x)
  where
    go : (y : ℕ) → (y ≡ 0) ⊎ (y ≡ 1) → cond (y == 1) 1 0 ≡ y
    go y (inl p) = rw p refl
    go y (inr p) = rw p refl

pub low_digit : (x : ℕ) → cond (bit x 0) 1 0 ≡ x % 2
low_digit x = ap (λ (y : ℕ). cond (y % 2 == 1) 1 0) (div-one x) ∙ digit x

pub same_number : (k : ℕ) (p q : ℕ → Bool) → ((i : ℕ) → i < k → p i ≡ q i) → number k p ≡ number k q
same_number zero p q h = refl
same_number (suc k) p q h =
    let e : number k p ≡ number k q = same_number k p q (λ i l. h i (omega arith)) in
    let b : p k ≡ q k = h k (omega arith) in
    rw (e, b) refl

-- no bit is set
pub number_none : (k : ℕ) → number k (λ _. false) ≡ 0
number_none zero = refl
number_none (suc k) = omega (arith, number_none k)

-- the number with the bits of w below k
pub number_mod : (k w : ℕ) → number k (λ i. bit w i) ≡ w % 2 ^ k
number_mod zero w = sym (mod-one w)
number_mod (suc k) w = let f : 1 + k ≡ suc k = omega arith in rw (number_mod k w, ← f, mod-pow-add w 1 k) (go (w / 2 ^ k % 2) (odd_even (w / 2 ^ k)))
  where
    go : (x : ℕ) → (x ≡ 0) ⊎ (x ≡ 1) → w % 2 ^ k + cond (x == 1) (2 ^ k) 0 ≡ x * 2 ^ k + w % 2 ^ k
    go x (inl p) = rw p (omega arith)
    go x (inr p) = rw p (omega arith)

-- all bits below k are set
pub ones_bit : (k i : ℕ) → i < k → bit (2 ^ k - 1) i ≡ true
ones_bit zero i h = absurd (omega arith)
ones_bit (suc k) zero h =
    let p : 2 ^ suc k ≡ 2 * 2 ^ k = pow-succ' 2 k in
    let q : 0 < 2 ^ k = pow_pos k in
    let e : (2 ^ suc k - 1) / 1 % 2 ≡ 1 = omega arith in
    eq-eqb ((2 ^ suc k - 1) / 1 % 2) 1 e
ones_bit (suc k) (suc i) h =
    let p : 2 ^ suc k ≡ 2 * 2 ^ k = pow-succ' 2 k in
    let q : 0 < 2 ^ k = pow_pos k in
    let e : (2 ^ suc k - 1) / 2 ≡ 2 ^ k - 1 = omega arith in
    halved (2 ^ suc k - 1) i ∙ ap (λ (y : ℕ). bit y i) e ∙ ones_bit k i (omega arith)

-- two bits are alike
abbrev pub alike : Bool → Bool → Bool
alike true b = b
alike false b = not b

pub alike_same : (a b : Bool) → alike a b ≡ true → a ≡ b
alike_same true true e = refl
alike_same true false e = sym e
alike_same false true e = e
alike_same false false e = refl

-- a word whose bit i is bit k of i, by computing
pub columns : (m k : ℕ) → each 64 (λ i. alike (bit m i) (bit i k)) ≡ true → (i : ℕ) → i < 64 → bit m i ≡ bit i k
columns m k e i h = alike_same (bit m i) (bit i k) (each_at 64 (λ i. alike (bit m i) (bit i k)) e i h)
