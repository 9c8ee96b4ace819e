use Rattle.std.proofs.lemmas.Result.{err_from_is_err_and}
use Rattle.std.proofs.Common.{sym, ◌∙◌}
use Rattle.engine.proofs.Rows.{next, stop}
use Rattle.steps.specs.Steps.{join_steps}
use Rattle.steps.proofs.Rows.{keep_block}
use Rattle.steps.proofs.scratch.Scratch.keep.Goals as goal

pub returns-in_err-join : goal.returns-in_err-join
returns-in_err-join g c =
    let p = err_from_is_err_and c.from_residual.result c.from_residual.ensures.1 in rw (p.1, p.2)
    (keep_block c.args.self c.args.matched c.args.blocked c.args.rule.now (sym c.is_block.ensures ∙ c.if-is_block.true)
    (stop c.in_err-join.ensures (join_steps c.args.self c.args.self.blocked c.args.blocked c.args.self.fresh)))

pub returns-in_ok-join : goal.returns-in_ok-join
returns-in_ok-join g c =
    keep_block c.args.self c.args.matched c.args.blocked c.args.rule.now (sym c.is_block.ensures ∙ c.if-is_block.true) (next c.in_ok-join.ensures c.join-then-is_block.ensures)
