use Rattle.steps.proofs.Wiping.{wipe_more}
use Rattle.steps.proofs.wipe.wipe.Goals as goal

pub loop-d-preserved : goal.loop-d-preserved
loop-d-preserved g c = wipe_more g.E.Engine.rooms c.loop-d.d _ _ _ _ c.loop-d-test.true c.clear.ensures c.loop-d.invariant
