-- Groups that are moved up to make room for others.
use Rattle.std.proofs.Common.{◌≡◌, ℕ, zero, suc, ◌+◌, ◌-◌, ◌*◌, ◌%◌, ◌^◌, ◌<◌, ◌≤◌, sym, refl, ap, ◌∙◌, mod-eq_of_lt, add-mul, arith}
use native.Mathlib.Nat.{pow-succ', pow-le-pow_right}
use Rattle.std.proofs.lemmas.Nat.{mul-le, pow-add}

shift_power : (k : ℕ) → 2 ^ (16 * k) ≡ 65536 ^ k
shift_power zero = refl
shift_power (suc k) =
    let e : 16 * suc k ≡ 16 + 16 * k = omega arith in
    rw (e, pow-add, shift_power k, pow-succ' 65536 k) refl

-- k groups and then j, with zero groups between
pub joined_fits : (v w k j : ℕ) → v < 65536 ^ k → w < 65536 ^ j → k + j ≤ 8 → v * 65536 ^ (8 - k) + w < 65536 ^ 8
joined_fits v w k j h g l =
    let p : (v + 1) * 65536 ^ (8 - k) ≤ 65536 ^ k * 65536 ^ (8 - k) = mul-le (v + 1) (65536 ^ (8 - k)) (65536 ^ k) (65536 ^ (8 - k)) (omega arith) (omega arith) in
    let s : k + (8 - k) ≡ 8 = omega arith in
    let q : 65536 ^ k * 65536 ^ (8 - k) ≡ 65536 ^ 8 = sym (pow-add 65536 k (8 - k)) ∙ ap (λ n. 65536 ^ n) s in
    let r : 65536 ^ j ≤ 65536 ^ (8 - k) = pow-le-pow_right (omega arith) (omega arith) in
    omega (arith, p, q, r, add-mul v 1 (65536 ^ (8 - k)))

-- a number of k groups, moved up to make eight of them
pub shifted : (v k : ℕ) → v < 65536 ^ k → k ≤ 8 → (v * 2 ^ (16 * (8 - k))) % 340282366920938463463374607431768211456 ≡ v * 65536 ^ (8 - k)
shifted v k h l =
    let f : v * 65536 ^ (8 - k) + 0 < 65536 ^ 8 = joined_fits v 0 k 0 h (omega arith) (omega arith) in
    rw (shift_power (8 - k)) (mod-eq_of_lt (omega arith))
