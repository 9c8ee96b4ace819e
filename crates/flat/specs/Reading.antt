-- The flat kind of frame.
use Rattle.std.specs.Prelude.{[], ◌∷◌}
use Rattle.kind.specs.Kinds.{Reading}
use Rattle.flat.specs.Frames.{frame_bits, flat_byte}
use Rattle.flat.specs.Lines.{flat_rule}

-- six bits in one byte
abbrev pub flat : Reading
flat = record { bits = 6; size = 1; reads = flat_rule; turns = frame_bits; backs = λ s. flat_byte s ∷ [] }
