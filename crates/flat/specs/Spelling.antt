-- The six bits of a flat frame, and the byte that they spell.
use Rattle.std.specs.Prelude.{◌≡◌, ℕ, ◌+◌, ◌*◌, ◌/◌, ◌%◌, ◌<◌, ◌≤◌, Bool, List, [], ◌∷◌, length, drop, ◌==◌, slice_index, slice_index_or, slice_set}
use Rattle.std.proofs.Common.{sym, ap, ◌∙◌, arith}
use Rattle.std.proofs.lemmas.Bool.Decides.{nat_tests}
use Rattle.engine.specs.Ops.{Bits, Agree, bit_at}
use Rattle.flat.specs.Frames.{first, bit, flat_byte}

-- the lowest bit of a number
low : (x : ℕ) → bit (x % 2 == 1) ≡ x % 2
low x = let h : x % 2 < 2 = omega arith in grind (arith, nat_tests)

-- the top six bits of a byte spell a quarter of it
pub spelt : (s : List ℕ) → slice_index s 0 < 256 → flat_byte (bit_at s) ≡ slice_index s 0 / 4
spelt s h = let x : ℕ = slice_index_or s 0 0 in sum x h (low (x / 128)) (low (x / 64)) (low (x / 32)) (low (x / 16)) (low (x / 8)) (low (x / 4))
  where
    sum : {a b c d e f : ℕ} (x : ℕ) → x < 256 → a ≡ x / 128 % 2 → b ≡ x / 64 % 2 → c ≡ x / 32 % 2 → d ≡ x / 16 % 2 → e ≡ x / 8 % 2 → f ≡ x / 4 % 2 → (4 * a + 2 * b + c) * 8 + (4 * d + 2 * e + f) ≡ x / 4
    sum x h p q r s t u = omega arith

-- bits 1 to 6 one by one
six : (P : ℕ → Type 0) → P 1 → P 2 → P 3 → P 4 → P 5 → P 6 → (v : ℕ) → 1 ≤ v → v ≤ 6 → P v
six P a b c d e f v l h = grind arith

-- a bit is 0 or 1, and tells its truth value
small : (b : Bool) → bit b ≤ 1
small b = grind (arith, nat_tests)

told : (b : Bool) (x : ℕ) → x ≡ bit b → (x == 1) ≡ b
told b x e = grind (arith, nat_tests)

-- the byte that six bits spell has those bits
module _ (s : Bits) where
  at : (v : ℕ) → bit (s v) ≤ 1
  at v = small (s v)

  pub byte_below : flat_byte s < 64
  byte_below = omega (arith, at 1, at 2, at 3, at 4, at 5, at 6)

  pub byte_bits : Agree 6 (bit_at (first (flat_byte s * 4))) s
  byte_bits =
      six (λ v. bit_at (first (flat_byte s * 4)) v ≡ s v)
      (told (s 1) (flat_byte s * 4 / 128 % 2) (omega (arith, at 1, at 2, at 3, at 4, at 5, at 6)))
      (told (s 2) (flat_byte s * 4 / 64 % 2) (omega (arith, at 1, at 2, at 3, at 4, at 5, at 6)))
      (told (s 3) (flat_byte s * 4 / 32 % 2) (omega (arith, at 1, at 2, at 3, at 4, at 5, at 6)))
      (told (s 4) (flat_byte s * 4 / 16 % 2) (omega (arith, at 1, at 2, at 3, at 4, at 5, at 6)))
      (told (s 5) (flat_byte s * 4 / 8 % 2) (omega (arith, at 1, at 2, at 3, at 4, at 5, at 6)))
      (told (s 6) (flat_byte s * 4 / 4 % 2) (omega (arith, at 1, at 2, at 3, at 4, at 5, at 6)))

-- the byte of some bits goes into the first byte of a place
pub written : (bits place : List ℕ) (x : ℕ) → slice_index bits 0 < 256 → 0 < length place → x ≡ slice_index bits 0 / 4 → slice_set place 0 x ≡ flat_byte (bit_at bits) ∷ drop 1 place
written bits [] x h l e = absurd (omega arith)
written bits (p ∷ ps) x h l e = ap (λ (z : ℕ). z ∷ ps) (e ∙ sym (spelt bits h))
