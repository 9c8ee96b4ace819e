-- What a kind of frame tells, and its law.
use Rattle.std.specs.Prelude.{◌≡◌, ℕ, ◌<◌, ◌≤◌, false, List, ◌++◌, length, drop, Ok, Result, slice_index}
use Rattle.engine.specs.Ops.{Bits, Agree, bit_at}
use Rattle.kind.specs.declared.rule.Rule.{Rule}
use Rattle.kind.specs.declared.fault.RuleFault.{RuleFault}
use Rattle.kind.specs.declared.fault.FrameFault.{FrameFault}

-- the number of bits and of bytes of a frame, the rule that a line reads as, the bytes of an assignment that a frame turns into, and the frame of some bits
pub record Reading : Type 0 where
  pub bits : ℕ
  pub size : ℕ
  pub reads : List ℕ → Result Rule RuleFault
  pub turns : List ℕ → Result (List ℕ) FrameFault
  pub backs : Bits → List ℕ

-- each number of the list is a byte
abbrev pub Bytes : List ℕ → Type 0
Bytes s = (i : ℕ) → slice_index s i < 256

-- a frame in the first bytes of a place
abbrev pub over : List ℕ → List ℕ → List ℕ
over frame place = frame ++ drop (length frame) place

-- the law of a kind
pub record Lawful (k : Reading) : Type 0 where
  -- n is 1 to 144, and a frame has at most 18 bytes
  pub some : 1 ≤ k.bits
  pub few : k.bits ≤ 144
  pub short : k.size ≤ 18
  -- only bits 1 to n count, in a rule and in a frame
  pub cares : (line : List ℕ) (r : Rule) → k.reads line ≡ Ok r → (v : ℕ) → k.bits < v → bit_at r.care v ≡ false
  pub only : (s t : Bits) → Agree k.bits s t → k.backs s ≡ k.backs t
  -- every string of n bits is a frame, of that many bytes, and turns into those bits
  pub sized : (s : Bits) → length (k.backs s) ≡ k.size
  pub whole : (s : Bits) → Bytes (k.backs s)
  pub forth : (s : Bits) → (t : List ℕ) × (k.turns (k.backs s) ≡ Ok t) × Agree k.bits (bit_at t) s
  -- a frame's bits turn into that frame; bytes that are no frame are refused
  pub back : (frame s : List ℕ) → Bytes frame → k.turns frame ≡ Ok s → k.backs (bit_at s) ≡ frame
