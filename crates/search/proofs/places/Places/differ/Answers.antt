use Rattle.std.proofs.lemmas.Result.{err_from_is_err_and}
use Rattle.engine.proofs.Rows.{next, stop}
use Rattle.search.specs.Steps.{latter_steps, join_steps}
use Rattle.search.proofs.places.Places.differ.Goals as goal

pub returns-in_err-exclude : goal.returns-in_err-exclude
returns-in_err-exclude g c =
    let p = err_from_is_err_and c.from_residual.result c.from_residual.ensures.1 in
    rw (p.1, p.2) (stop c.in_err-exclude.ensures (λ rest. latter_steps c.args.self c.args.a c.args.b (join_steps c.args.self rest)))

pub returns-in_err-exclude-2 : goal.returns-in_err-exclude-2
returns-in_err-exclude-2 g c =
    let p = err_from_is_err_and c.from_residual-in_err-exclude-2.result c.from_residual-in_err-exclude-2.ensures.1 in
    rw (p.1, p.2) (next c.in_ok-exclude.ensures (stop c.in_err-exclude-2.ensures (join_steps c.args.self)))

pub returns : goal.returns
returns g c = next c.in_ok-exclude.ensures (next c.in_ok-exclude-2.ensures c.join.ensures)
