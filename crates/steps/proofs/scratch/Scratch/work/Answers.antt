use Rattle.std.proofs.lemmas.Result.{err_from_is_err_and}
use Rattle.engine.proofs.Rows.{row, next}
use Rattle.steps.proofs.Rows.{tested, refused}
use Rattle.steps.proofs.scratch.Scratch.work.Goals as goal

pub returns-in_err-keep : goal.returns-in_err-keep
returns-in_err-keep g c =
    let p = err_from_is_err_and c.from_residual-in_err-keep.result c.from_residual-in_err-keep.ensures.1 in
    rw (p.1, p.2) (refused (next c.in_ok-find.ensures (next (row c.in_ok-idle.ensures.does) c.in_err-keep.ensures)))

pub returns : goal.returns
returns g c = tested c.in_ok-find.ensures c.in_ok-idle.ensures c.in_ok-keep.ensures
