use Rattle.steps.proofs.Wiping.{Wiped}
use Rattle.steps.proofs.wipe.wipe.Given as goal

abbrev pub invariant-loop-d : goal.invariant-loop-d
invariant-loop-d g l = Wiped g.E.Engine.rooms l.d (g.E.Engine.view l.initial.e) (g.E.Engine.view l.e)
