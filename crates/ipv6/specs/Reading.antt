-- The IPv6 kind of frame.
use Rattle.std.specs.Prelude.{ℕ, cond, List, length, Ok, Err, Result, ◌==◌}
use Rattle.kind.specs.declared.fault.FrameFault.{FrameFault}
use Rattle.kind.specs.declared.fault.FrameFault.TheVariants.{Wrong}
use Rattle.kind.specs.Kinds.{Reading}
use Rattle.bits.specs.Frames.{frame_of}
use Rattle.ipv6.specs.Lines.{ipv6_rule}

-- a frame is 18 bytes, and they are its bits
abbrev pub frame_bits : List ℕ → Result (List ℕ) FrameFault
frame_bits frame = cond (length frame == 18) (Ok frame) (Err Wrong)

-- 144 bits in 18 bytes
abbrev pub ipv6 : Reading
ipv6 = record { bits = 144; size = 18; reads = ipv6_rule; turns = frame_bits; backs = frame_of }
