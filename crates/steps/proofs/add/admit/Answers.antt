use Rattle.std.proofs.Common.{rules}
use Rattle.std.proofs.lemmas.Result.{err_from_is_err_and}
use Rattle.steps.proofs.add.admit.Goals as goal

pub returns-in_err-idle : goal.returns-in_err-idle
returns-in_err-idle g c =
    let p = err_from_is_err_and c.from_residual.result c.from_residual.ensures.1 in
    rw (p.1, p.2) (g.E.Engine.view c.work-done.new.e, rw (← c.in_err-idle.ensures.same) at c.work-done.ensures, c.in_err-idle.ensures.swept)

pub returns : goal.returns
returns g c =
    (g.E.Engine.view c.or_swept.new.e, rw c.in_ok-idle.ensures.swept (rw (← c.in_ok-idle.ensures.same) at c.work-done.ensures), search rules)
