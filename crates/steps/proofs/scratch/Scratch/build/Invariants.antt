use Rattle.std.proofs.Common.{◌≡◌, List}
use Rattle.engine.specs.Ops.{Op}
use Rattle.engine.specs.Rows.{ran}
use Rattle.steps.specs.Steps.{bits_steps}
use Rattle.steps.proofs.scratch.Scratch.build.Given as goal

abbrev pub invariant-loop-v : goal.invariant-loop-v
invariant-loop-v g l =
    (rest : List Op) → ran g.E.Engine.rooms (g.E.Engine.view l.initial.e) (bits_steps l.self l.rule l.n rest) ≡ ran g.E.Engine.rooms (g.E.Engine.view l.e) (bits_steps l.self l.rule l.v rest)
