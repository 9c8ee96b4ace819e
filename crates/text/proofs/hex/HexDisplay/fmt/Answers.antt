use Rattle.std.proofs.Common.{refl, rules}
use Rattle.std.proofs.lemmas.Grind.{put_two}
use Rattle.text.proofs.Shown.{hex_more}
use Rattle.text.proofs.hex.HexDisplay.fmt.Goals as goal

pub loop-byte-preserved : goal.loop-byte-preserved
loop-byte-preserved g c plain =
    let before = c.loop-byte.invariant plain in
    put_two _ _ _ _ _ _ _ before (c.in_ok-write.ensures.writes before.plain refl) (hex_more c.args.self.now.0.now c.loop-byte.byte-index _ _ (search rules) c.low_digit.ensures c.low_digit-in-loop-byte.ensures)
