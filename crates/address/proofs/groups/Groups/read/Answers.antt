use Rattle.text.specs.Split.{part}
use Rattle.address.proofs.Gather.{sofar_more}
use Rattle.address.proofs.groups.Groups.read.Goals as goal

pub loop-piece-preserved : goal.loop-piece-preserved
loop-piece-preserved c = sofar_more _ _ _ _ _ (part c.in-Some.piece) _ c.loop-piece.invariant c.in-Some.ensures.steps c.in_ok-group.ensures c.push.ensures.value c.push.ensures.count
