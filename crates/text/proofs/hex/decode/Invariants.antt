use Rattle.std.proofs.Common.{◌≡◌, length, vec_items}
use Rattle.text.specs.Hexadecimal.{hex_bytes}
use Rattle.text.proofs.Decoding.{after}
use Rattle.text.proofs.hex.decode.Given as goal

abbrev pub invariant-loop-rest : goal.invariant-loop-rest
invariant-loop-rest l = after (vec_items l.bytes) (hex_bytes l.rest) ≡ hex_bytes l.text

abbrev pub decreases-loop-rest : goal.decreases-loop-rest
decreases-loop-rest l = length l.rest
