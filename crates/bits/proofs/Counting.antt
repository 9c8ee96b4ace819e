-- Which bits of a rule count, and what its value has there.
use Rattle.std.proofs.Common.{◌≡◌, ℕ, zero, suc, ◌+◌, ◌-◌, ◌*◌, ◌/◌, ◌%◌, ◌^◌, ◌<◌, ◌≤◌, Bool, true, false, eqb, leb, Some, None, Option, sym, refl, ap, ◌∙◌, ⊎_elim, mul_assoc, mul_comm, add-mul, one-mul, arith}
use native.Mathlib.Nat.{pow-succ', add-mul-div_right, zero-div}
use Rattle.std.proofs.lemmas.Nat.{pow-add, pow_pos, shl-shr, shr-shr, div-mul-add, div-add-mod'}
use Rattle.std.proofs.lemmas.Bool.{le-leb, lt-leb, cases_lt}
use Rattle.engine.specs.Ops.{bit_at}
use Rattle.bits.specs.Frames.{first_bits_of, counting, port_care, care_bytes}
use Rattle.bits.proofs.Spelt.{bit_of}
use Rattle.bits.proofs.Bytes.{bit_bytes}

less_one : (a b : ℕ) → 0 < a → (a - 1) * b + b ≡ a * b
less_one a b h = let e : a - 1 + 1 ≡ a = omega arith in omega (arith, add-mul (a - 1) 1 b, one-mul b, ap (λ n. n * b) e)

-- the first k of n bits
abbrev ones : ℕ → ℕ → ℕ
ones n k = 2 ^ n - 2 ^ (n - k)

-- the same by a product
ones_is : (n k : ℕ) → k ≤ n → ones n k ≡ (2 ^ k - 1) * 2 ^ (n - k)
ones_is n k h =
    let s : k + (n - k) ≡ n = omega arith in
    let e : 2 ^ n ≡ 2 ^ k * 2 ^ (n - k) = ap (λ m. 2 ^ m) (sym s) ∙ pow-add 2 k (n - k) in
    omega (arith, e, less_one (2 ^ k) (2 ^ (n - k)) (pow_pos k))

-- a number of only set bits, shifted down
ones_down : (i j : ℕ) → (2 ^ (i + j) - 1) / 2 ^ j ≡ 2 ^ i - 1
ones_down i j =
    let q = pow_pos j in
    let e : 2 ^ (i + j) - 1 ≡ (2 ^ i - 1) * 2 ^ j + (2 ^ j - 1) = omega (arith, pow-add 2 i j, less_one (2 ^ i) (2 ^ j) (pow_pos i)) in
    ap (λ n. n / 2 ^ j) e ∙ div-mul-add (2 ^ i - 1) (2 ^ j) (2 ^ j - 1) (omega arith)

odd_ones : (i : ℕ) → (2 ^ suc i - 1) % 2 ≡ 1
odd_ones i = omega (arith, pow-succ' 2 i, pow_pos i)

inside : (n k i : ℕ) → 1 ≤ i → i ≤ k → k ≤ n → ones n k / 2 ^ (n - i) % 2 ≡ 1
inside n k zero l h g = absurd (omega arith)
inside n k (suc i) l h g =
    let s : n - k + (k - suc i) ≡ n - suc i = omega arith in
    let t : suc i + (k - suc i) ≡ k = omega arith in
    let e : ones n k / 2 ^ (n - suc i) ≡ 2 ^ suc i - 1 =
    ap (λ m. ones n k / 2 ^ m) (sym s) ∙ sym (shr-shr (ones n k) (n - k) (k - suc i)) ∙ ap (λ v. v / 2 ^ (n - k) / 2 ^ (k - suc i)) (ones_is n k g)
    ∙ ap (λ v. v / 2 ^ (k - suc i)) (shl-shr (2 ^ k - 1) (n - k)) ∙ ap (λ m. (2 ^ m - 1) / 2 ^ (k - suc i)) (sym t) ∙ ones_down (suc i) (k - suc i) in
    ap (λ v. v % 2) e ∙ odd_ones i

-- a multiple of 2 ^ (n - k) has no bit past its first k of n
pub past_clear : (n m k i : ℕ) → k < i → i ≤ n → m * 2 ^ (n - k) / 2 ^ (n - i) % 2 ≡ 0
past_clear n m k i h g =
    let s : suc (i - suc k) + (n - i) ≡ n - k = omega arith in
    let e : m * 2 ^ (n - k) ≡ m * 2 ^ suc (i - suc k) * 2 ^ (n - i) =
    ap (λ x. m * 2 ^ x) (sym s) ∙ ap (λ v. m * v) (pow-add 2 (suc (i - suc k)) (n - i)) ∙ sym (mul_assoc m (2 ^ suc (i - suc k)) (2 ^ (n - i))) in
    let d : m * 2 ^ suc (i - suc k) ≡ m * 2 ^ (i - suc k) * 2 =
    ap (λ v. m * v) (pow-succ' 2 (i - suc k) ∙ mul_comm 2 (2 ^ (i - suc k))) ∙ sym (mul_assoc m (2 ^ (i - suc k)) 2) in
    ap (λ v. v / 2 ^ (n - i) % 2) e ∙ ap (λ v. v % 2) (shl-shr (m * 2 ^ suc (i - suc k)) (n - i) ∙ d) ∙ omega arith

first_bit : (n k i : ℕ) → 1 ≤ i → i ≤ n → k ≤ n → bit_of n (ones n k) i ≡ leb i k
first_bit n k i l h g =
    ⊎_elim (λ a. rw (ones_is n k g, past_clear n (2 ^ k - 1) k i a h, lt-leb i k a) refl) (λ a. rw (inside n k i l a g, le-leb i k a) refl) (cases_lt k i)

-- the upper bits of a number of 128 and 16 bits
pub upper : (v q i : ℕ) → q < 65536 → i ≤ 128 → bit_of 144 (v * 65536 + q) i ≡ bit_of 128 v i
upper v q i h l =
    let s : 16 + (128 - i) ≡ 144 - i = omega arith in
    let e : (v * 65536 + q) / 2 ^ (144 - i) ≡ v / 2 ^ (128 - i) =
    ap (λ m. (v * 65536 + q) / 2 ^ m) (sym s) ∙ sym (shr-shr (v * 65536 + q) 16 (128 - i)) ∙ ap (λ n. n / 2 ^ (128 - i)) (div-mul-add v 65536 q h) in
    ap (λ n. eqb (n % 2) 1) e

-- the lower bits
pub lower : (v q i : ℕ) → 128 < i → i ≤ 144 → bit_of 144 (v * 65536 + q) i ≡ bit_of 16 q (i - 128)
lower v q i h l =
    let s : suc (i - 129) + (144 - i) ≡ 16 = omega arith in
    let m : 16 - (i - 128) ≡ 144 - i = omega arith in
    let e : 65536 ≡ 2 ^ suc (i - 129) * 2 ^ (144 - i) = ap (λ n. 2 ^ n) (sym s) ∙ pow-add 2 (suc (i - 129)) (144 - i) in
    let f : v * 65536 + q ≡ q + v * 2 ^ suc (i - 129) * 2 ^ (144 - i) = omega (arith, ap (λ n. v * n) e, mul_assoc v (2 ^ suc (i - 129)) (2 ^ (144 - i))) in
    let g : (v * 65536 + q) / 2 ^ (144 - i) ≡ q / 2 ^ (144 - i) + v * 2 ^ suc (i - 129) = ap (λ n. n / 2 ^ (144 - i)) f ∙ add-mul-div_right q (v * 2 ^ suc (i - 129)) (pow_pos (144 - i)) in
    let d : v * 2 ^ suc (i - 129) ≡ v * 2 ^ (i - 129) * 2 = ap (λ n. v * n) (pow-succ' 2 (i - 129) ∙ mul_comm 2 (2 ^ (i - 129))) ∙ sym (mul_assoc v (2 ^ (i - 129)) 2) in
    let r : (v * 65536 + q) / 2 ^ (144 - i) % 2 ≡ q / 2 ^ (144 - i) % 2 = omega (arith, g, d) in
    rw m (ap (λ n. eqb n 1) r)

-- a port is given
abbrev pub is_given : Option ℕ → Bool
is_given None = false
is_given (Some p) = true

-- the 16 bits of the port
pub no_bit : (i : ℕ) → bit_of 16 0 i ≡ false
no_bit i = ap (λ n. eqb (n % 2) 1) (zero-div (2 ^ (16 - i)))

port_bit : (q : Option ℕ) (i : ℕ) → 1 ≤ i → i ≤ 16 → bit_of 16 (port_care q) i ≡ is_given q
port_bit (Some p) i l h = first_bit 16 16 i l h (omega arith) ∙ le-leb i 16 h
port_bit None i l h = no_bit i

port_fits : (q : Option ℕ) → port_care q < 65536
port_fits (Some p) = omega arith
port_fits None = omega arith

-- an address bit counts up to the length
pub address_care : (k q : Option ℕ) (i : ℕ) → counting k ≤ 128 → 1 ≤ i → i ≤ 128 → bit_at (care_bytes k q) i ≡ leb i (counting k)
address_care k q i b l h =
    bit_bytes 18 (first_bits_of (counting k) * 65536 + port_care q) i l (omega arith) ∙ upper (first_bits_of (counting k)) (port_care q) i (port_fits q) h ∙ first_bit 128 (counting k) i l h b

-- a port bit counts where there is a port
pub port_counts : (k q : Option ℕ) (i : ℕ) → 128 < i → i ≤ 144 → bit_at (care_bytes k q) i ≡ is_given q
port_counts k q i l h =
    bit_bytes 18 (first_bits_of (counting k) * 65536 + port_care q) i (omega arith) h ∙ lower (first_bits_of (counting k)) (port_care q) i l h ∙ port_bit q (i - 128) (omega arith) (omega arith)

-- a number with no bit set past its first k of n
pub kept_bit : (n a k i : ℕ) → a % 2 ^ (n - k) ≡ 0 → k < i → i ≤ n → a / 2 ^ (n - i) % 2 ≡ 0
kept_bit n a k i z h g =
    let m : ℕ = a / 2 ^ (n - k) in
    let w : a ≡ m * 2 ^ (n - k) = omega (arith, div-add-mod' a (2 ^ (n - k)), z, mul_comm m (2 ^ (n - k))) in
    ap (λ v. v / 2 ^ (n - i) % 2) w ∙ past_clear n m k i h g
