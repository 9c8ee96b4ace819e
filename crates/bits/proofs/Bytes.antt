-- Numbers as bytes.
use Rattle.std.proofs.Common.{◌≡◌, ℕ, zero, suc, ◌+◌, ◌-◌, ◌*◌, ◌/◌, ◌%◌, ◌^◌, ◌<◌, ◌≤◌, eqb, List, [], ◌∷◌, ◌++◌, length, get_or, sym, refl, ap, ◌∙◌, mod-lt, mul_assoc, add-mul, arith, lit<}
use borrow.Rule.Slice.PartMut.{put_mid}
use native.Mathlib.Nat.{pow-succ', div-div-eq-div-mul, mul-add-div_right, zero-div}
use lib.Pow.{mod-mod-pow}
use Rattle.std.specs.Int.Digits.{number_from_digits_after, number_from_digits}
use Rattle.std.proofs.lemmas.Nat.{pow-add, shr-shr, field_of, mod_below, div-add-mod', div-mul-add}
use Rattle.engine.specs.Ops.{bit_at}
use Rattle.bits.specs.Frames.{be_bytes}
use Rattle.bits.proofs.Spelt.{bit_of}

pub be_length : (k v : ℕ) → length (be_bytes k v) ≡ k
be_length zero v = refl
be_length (suc k) v = ap suc (be_length k v)

pub be_small : (k v i : ℕ) → get_or (be_bytes k v) i 0 < 256
be_small zero v i = lit< tt
be_small (suc k) v zero = mod-lt (v / 256 ^ k) (lit< tt)
be_small (suc k) v (suc i) = be_small k v i

-- bytes by place
be_at : (k v j : ℕ) → j < k → get_or (be_bytes k v) j 0 ≡ v / 256 ^ (k - (j + 1)) % 256
be_at zero v j h = absurd (omega arith)
be_at (suc k) v zero h = let e : suc k - (0 + 1) ≡ k = omega arith in rw e refl
be_at (suc k) v (suc j) h = let e : suc k - (suc j + 1) ≡ k - (j + 1) = omega arith in rw e (be_at k v j (omega arith))

power_bytes : (k : ℕ) → 256 ^ k ≡ 2 ^ (8 * k)
power_bytes zero = refl
power_bytes (suc k) = let e : 8 * suc k ≡ 8 + 8 * k = omega arith in rw (e, pow-add 2 8 (8 * k), ← power_bytes k) (pow-succ' 256 k)

-- one bit of one byte of a number
byte_bit : (v n m : ℕ) → m < 8 → v / 256 ^ n % 256 / 2 ^ (7 - m) % 2 ≡ v / 2 ^ (8 * n + (7 - m)) % 2
byte_bit v n m h =
    let s : 1 + m + (7 - m) ≡ 8 = omega arith in
    let c : 1 + m ≡ m + 1 = omega arith in
    let e : v / 2 ^ (8 * n) % 2 ^ (1 + m + (7 - m)) ≡ v / 256 ^ n % 256 = rw (s, power_bytes n) refl in
    let f : v / 256 ^ n % 256 / 2 ^ (7 - m) ≡ v / 2 ^ (8 * n) / 2 ^ (7 - m) % 2 ^ (m + 1) = ap (λ x. x / 2 ^ (7 - m)) (sym e) ∙ field_of (v / 2 ^ (8 * n)) (1 + m) (7 - m) ∙ ap (λ x. v / 2 ^ (8 * n) / 2 ^ (7 - m) % 2 ^ x) c in
    ap (λ x. x % 2) f ∙ mod-mod-pow (v / 2 ^ (8 * n) / 2 ^ (7 - m)) m 1 ∙ ap (λ x. x % 2) (shr-shr v (8 * n) (7 - m))

-- bit i of the bytes of a number is bit i of the number
pub bit_bytes : (k v i : ℕ) → 1 ≤ i → i ≤ 8 * k → bit_at (be_bytes k v) i ≡ bit_of (8 * k) v i
bit_bytes k v i l h =
    let d = div-add-mod' (i - 1) 8 in
    let m : (i - 1) % 8 < 8 = mod_below (i - 1) 8 (omega arith) in
    let j : (i - 1) / 8 < k = omega arith in
    let e : 8 * (k - ((i - 1) / 8 + 1)) + (7 - (i - 1) % 8) ≡ 8 * k - i = omega arith in
    rw (be_at k v ((i - 1) / 8) j, byte_bit v (k - ((i - 1) / 8 + 1)) ((i - 1) % 8) m, e) refl

-- there is no bit past the last byte
past : (k v j : ℕ) → k ≤ j → get_or (be_bytes k v) j 0 ≡ 0
past zero v j h = refl
past (suc k) v zero h = absurd (omega arith)
past (suc k) v (suc j) h = past k v j (omega arith)

pub late : (k v i : ℕ) → 8 * k < i → eqb (get_or (be_bytes k v) ((i - 1) / 8) 0 / 2 ^ (7 - (i - 1) % 8) % 2) 1 ≡ eqb 0 1
late k v i l =
    let w : k ≤ (i - 1) / 8 = omega arith in
    ap (λ (y : ℕ). eqb ((y / 2 ^ (7 - (i - 1) % 8)) % 2) 1) (past k v ((i - 1) / 8) w) ∙ ap (λ (y : ℕ). eqb (y % 2) 1) (zero-div (2 ^ (7 - (i - 1) % 8)))

high_byte : (a p k : ℕ) → p < 65536 → (a * 65536 + p) / 256 ^ suc (suc k) ≡ a / 256 ^ k
high_byte a p k h =
    let e : 256 ^ suc (suc k) ≡ 65536 * 256 ^ k = pow-succ' 256 (suc k) ∙ ap (λ n. 256 * n) (pow-succ' 256 k) ∙ omega arith in
    ap (λ n. (a * 65536 + p) / n) e ∙ sym (div-div-eq-div-mul (a * 65536 + p) 65536 (256 ^ k)) ∙ ap (λ n. n / 256 ^ k) (div-mul-add a 65536 p h)

high_bytes : (k a p : ℕ) → p < 65536 → be_bytes (suc (suc k)) (a * 65536 + p) ≡ be_bytes k a ++ be_bytes 2 p
high_bytes zero a p h =
    let e : (a * 65536 + p) / 256 % 256 ≡ p / 256 % 256 = omega arith in
    let f : (a * 65536 + p) / 1 % 256 ≡ p / 1 % 256 = omega arith in
    rw (e, f) refl
high_bytes (suc k) a p h = rw (high_byte a p k h, high_bytes k a p h) refl

-- the bytes of an address, and those of a port written behind them
pub frame_is : (a p : ℕ) (xs ys : List ℕ) → p < 65536 → xs ≡ be_bytes 16 a → ys ≡ be_bytes 2 p → put_mid 16 2 (xs ++ (0 ∷ 0 ∷ [])) ys ≡ be_bytes 18 (a * 65536 + p)
frame_is a p xs ys h e f = rw (e, f) (sym (high_bytes 16 a p h))

-- bytes above the lowest k do not matter
be_low : (k m x : ℕ) → be_bytes k (m * 256 ^ k + x) ≡ be_bytes k x
be_low zero m x = refl
be_low (suc k) m x =
    let e : m * 256 ^ suc k ≡ m * 256 * 256 ^ k = ap (λ n. m * n) (pow-succ' 256 k) ∙ sym (mul_assoc m 256 (256 ^ k)) in
    let d : (m * 256 * 256 ^ k + x) / 256 ^ k ≡ m * 256 + x / 256 ^ k = mul-add-div_right (power_some k) (m * 256) x in
    let f : (m * 256 * 256 ^ k + x) / 256 ^ k % 256 ≡ x / 256 ^ k % 256 = omega (arith, d) in
    rw (e, f, be_low k (m * 256) x) refl
  where
    power_some : (k : ℕ) → 0 < 256 ^ k
    power_some zero = lit< tt
    power_some (suc k) = omega (arith, pow-succ' 256 k, power_some k)

-- the number that bytes write behind another
pub after_is : (n : ℕ) (ds : List ℕ) → number_from_digits_after 256 n ds ≡ n * 256 ^ length ds + number_from_digits 256 ds
after_is n [] = omega arith
after_is n (d ∷ ds) =
    let p : ℕ = 256 ^ length ds in
    let e = after_is (n * 256 + d) ds in
    let f = after_is (0 * 256 + d) ds in
    let g : n * 256 ^ suc (length ds) ≡ n * 256 * p = ap (λ q. n * q) (pow-succ' 256 (length ds)) ∙ sym (mul_assoc n 256 p) in
    let h : (0 * 256 + d) * p ≡ d * p = let z : 0 * 256 + d ≡ d = omega arith in ap (λ q. q * p) z in
    omega (arith, e, f, g, h, add-mul (n * 256) d p)

pub number_below : (ds : List ℕ) → ((i : ℕ) → get_or ds i 0 < 256) → number_from_digits 256 ds < 256 ^ length ds
number_below [] h = lit< tt
number_below (d ∷ ds) h =
    let p : ℕ = 256 ^ length ds in
    let e = after_is (0 * 256 + d) ds in
    let g : (0 * 256 + d) * p ≡ d * p = let z : 0 * 256 + d ≡ d = omega arith in ap (λ q. q * p) z in
    let b = number_below ds (λ i. h (suc i)) in
    let m : (d + 1) * p ≤ 256 * p = times (d + 1) 256 p (omega (arith, h 0)) in
    omega (arith, e, g, b, m, add-mul d 1 p, pow-succ' 256 (length ds))
  where
    times : (a b p : ℕ) → a ≤ b → a * p ≤ b * p
    times a b p h = let e : a + (b - a) ≡ b = omega arith in omega (arith, add-mul a (b - a) p, ap (λ q. q * p) e)

-- bytes are the bytes of the number that they write
pub be_number : (ds : List ℕ) → ((i : ℕ) → get_or ds i 0 < 256) → be_bytes (length ds) (number_from_digits 256 ds) ≡ ds
be_number [] h = refl
be_number (d ∷ ds) h =
    let p : ℕ = 256 ^ length ds in
    let z : 0 * 256 + d ≡ d = omega arith in
    let e : number_from_digits 256 (d ∷ ds) ≡ d * p + number_from_digits 256 ds = after_is (0 * 256 + d) ds ∙ ap (λ q. q * p + number_from_digits 256 ds) z in
    let t : (d * p + number_from_digits 256 ds) / p % 256 ≡ d = ap (λ q. q % 256) (div-mul-add d p (number_from_digits 256 ds) (number_below ds (λ i. h (suc i)))) ∙ (let m : d % 256 ≡ d = omega (arith, h 0) in m) in
    rw (e, t, be_low (length ds) d (number_from_digits 256 ds)) (ap (λ xs. d ∷ xs) (be_number ds (λ i. h (suc i))))
