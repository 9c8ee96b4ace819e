use Rattle.std.proofs.Common.{Ok, refl}
use Rattle.std.proofs.lemmas.Result.{err_from_is_err_and}
use Rattle.engine.specs.Rows.{Ran}
use Rattle.engine.proofs.Rows.{row, next, stop, retell}
use Rattle.search.specs.Steps.{take_steps}
use Rattle.search.proofs.Picks.{chosen, retaken, retry_steps}
use Rattle.search.proofs.places.Places.choose.Goals.{After-take, then-none+in_ok-clear+in_ok-fix-2, else-none}
use Rattle.search.proofs.places.Places.choose.Goals as goal

pub returns-in_err-fix-2 : goal.returns-in_err-fix-2
returns-in_err-fix-2 g c =
    let p = err_from_is_err_and c.from_residual-in_err-fix-2.result c.from_residual-in_err-fix-2.ensures.1 in
    rw (p.1, p.2) (chosen c.args.self c.in_ok-fix.ensures (rw c.if-none.true at c.in_ok-none.ensures) (next (row c.in_ok-clear.ensures) (stop (row c.in_err-fix-2.ensures) (take_steps c.args.self))) (λ y h. cc))

-- the half is held at 1 where nothing was left at 0
retried : (g : _) (c : After-take g) → Ran {A = Unit {0}} g.E.Engine.rooms (retry_steps c.args.self c.args.v c.in_ok-none.none) (g.E.Engine.view c.empty.new.self) (g.E.Engine.view c.if-none.e) (Ok tt)
retried g c = elim c.if-none.branch [ then-none+in_ok-clear+in_ok-fix-2 w ↦ rw (w.if-none.true, w.e-is) (next (row w.in_ok-clear.ensures) (retell (row w.in_ok-fix-2.ensures) tt)) | else-none w ↦ rw (w.if-none.false, w.e-is) record { goes = λ rest. refl } ]

pub returns-in_err-take : goal.returns-in_err-take
returns-in_err-take g c =
    let p = err_from_is_err_and c.from_residual-in_err-take.result c.from_residual-in_err-take.ensures.1 in
    rw (p.1, p.2) (chosen c.args.self c.in_ok-fix.ensures c.in_ok-none.ensures (retaken c.args.self c.args.v c.in_ok-none.none (retried g (goal.at.returns-in_err-take g c).After-take) (stop c.in_err-take.ensures (λ rest. rest))) (λ y h. cc))

pub returns : goal.returns
returns g c = chosen c.args.self c.in_ok-fix.ensures c.in_ok-none.ensures (retaken c.args.self c.args.v c.in_ok-none.none (retried g (goal.at.returns g c).After-take) (retell c.in_ok-take.ensures c.in_ok-none.none)) (λ y h. cc)
