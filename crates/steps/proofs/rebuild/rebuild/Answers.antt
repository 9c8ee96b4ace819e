use Rattle.std.proofs.lemmas.Result.{err_from_is_err_and}
use Rattle.steps.proofs.rebuild.rebuild.Goals as goal

pub returns-in_err-or_swept : goal.returns-in_err-or_swept
returns-in_err-or_swept g c =
    let p = err_from_is_err_and c.from_residual.result c.from_residual.ensures.1 in
    rw (p.1, p.2) (g.E.Engine.view c.gather-done.new.e, rw (← c.in_err-or_swept.ensures.same) at c.gather-done.ensures, c.in_err-or_swept.ensures.swept)

pub returns : goal.returns
returns g c =
    rw c.store.ensures.done (g.E.Engine.view c.or_swept.new.e, rw c.in_ok-or_swept.ensures.swept (rw (← c.in_ok-or_swept.ensures.same) at c.gather-done.ensures), rw c.store.ensures.done at c.store.ensures.row)
