use Rattle.std.proofs.Common.{◌≡◌, List, drop}
use Rattle.engine.specs.Ops.{Op}
use Rattle.engine.specs.Rows.{ran}
use Rattle.steps.specs.Steps.{rebuild_steps}
use Rattle.steps.proofs.rebuild.gather.Given as goal

abbrev pub invariant-loop-rule : goal.invariant-loop-rule
invariant-loop-rule g l =
    (rest : List Op) → ran g.E.Engine.rooms (g.E.Engine.view l.initial.e) (rebuild_steps l.rules l.n rest) ≡ ran g.E.Engine.rooms (g.E.Engine.view l.e) (rebuild_steps (drop l.rule-index l.rules) l.n rest)
