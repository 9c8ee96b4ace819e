-- Flat frames and their bits.
use Rattle.std.specs.Prelude.{ℕ, ◌+◌, ◌*◌, Bool, cond, List, [], ◌∷◌, replicate, Ok, Err, Result, nat_lt}
use Rattle.engine.specs.Ops.{Bits}
use Rattle.kind.specs.declared.fault.FrameFault.{FrameFault}
use Rattle.kind.specs.declared.fault.FrameFault.TheVariants.{Wrong}

-- the 18 bytes of an assignment of which only the first may be set
abbrev pub first : ℕ → List ℕ
first b = b ∷ replicate 17 0

-- the bits of a frame: one byte below 64, whose six bits come first
abbrev pub frame_bits : List ℕ → Result (List ℕ) FrameFault
frame_bits [] = Err Wrong
frame_bits (b ∷ []) = cond (nat_lt b 64) (Ok (first (b * 4))) (Err Wrong)
frame_bits (b ∷ c ∷ bs) = Err Wrong

-- a bit as a number
abbrev pub bit : Bool → ℕ
bit b = cond b 1 0

-- three bits as a number 0 to 7, the highest first
abbrev pub three : Bool → Bool → Bool → ℕ
three a b c = 4 * bit a + 2 * bit b + bit c

-- the frame of some bits, from × 8 + to: bits 1 to 3 are from, bits 4 to 6 are to
abbrev pub flat_byte : Bits → ℕ
flat_byte s = three (s 1) (s 2) (s 3) * 8 + three (s 4) (s 5) (s 6)
