use Rattle.std.proofs.Common.{inl, inr}
use Rattle.std.proofs.lemmas.Result.{err_from_is_err_and}
use Rattle.engine.proofs.Rows.{retell}
use Rattle.search.proofs.Picks.{clear_made, vars_kept}
use Rattle.search.proofs.least.seek.Goals.{then-branch, else-branch+in_ok-hunt}
use Rattle.search.proofs.least.seek.Goals as goal

pub returns-in_err-empty : goal.returns-in_err-empty
returns-in_err-empty g c =
    let p = err_from_is_err_and c.from_residual-in_err-empty.result c.from_residual-in_err-empty.ensures.1 in
    rw (p.1, p.2) (inr (inl (_, retell c.in_ok-differ.ensures tt, c.in_err-empty.ensures)))

pub returns-in_err-hunt : goal.returns-in_err-hunt
returns-in_err-hunt g c =
    let p = err_from_is_err_and c.from_residual-in_err-hunt.result c.from_residual-in_err-hunt.ensures.1 in
    rw (p.1, p.2) (inr (inr (_, _, retell c.in_ok-differ.ensures tt, rw c.if-branch.false at c.in_ok-empty.ensures, rw (vars_kept c.in_ok-differ.ensures c.in_ok-empty.ensures) at c.in_err-hunt.ensures)))

pub returns : goal.returns
returns g c = elim c.if-branch.branch [
  | then-branch w ↦ rw w.found-is (_, _, retell c.in_ok-differ.ensures tt, rw w.if-branch.true at c.in_ok-empty.ensures, rw w.e-is at (clear_made c.in_ok-clear.ensures))
  | else-branch+in_ok-hunt w ↦ rw w.found-is (_, _, _, retell c.in_ok-differ.ensures tt, rw w.if-branch.false at c.in_ok-empty.ensures, rw (vars_kept c.in_ok-differ.ensures c.in_ok-empty.ensures) at w.in_ok-hunt.ensures, rw w.e-is at (clear_made c.in_ok-clear.ensures))
]
