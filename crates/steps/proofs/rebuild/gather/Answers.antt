use Rattle.std.proofs.Common.{ap, ◌∙◌}
use Rattle.std.proofs.lemmas.Result.{err_from_is_err_and}
use Rattle.engine.specs.Rows.{ran}
use Rattle.steps.proofs.Rows.{rebuild_drop}
use Rattle.steps.proofs.rebuild.gather.Goals as goal

pub returns-in_err-keep : goal.returns-in_err-keep
returns-in_err-keep g c =
    let p = err_from_is_err_and c.from_residual-in_err-keep.result c.from_residual-in_err-keep.ensures.1 in
    rw (p.1, p.2) record {
      goes = λ rest.
          c.loop-rule.invariant rest
          ∙ ap (ran g.E.Engine.rooms (g.E.Engine.view c.loop-rule.e)) (rebuild_drop c.args.rules.now c.loop-rule.rule-index c.args.n _ rest c.loop-rule-test.true)
          ∙ c.in_ok-find.ensures.goes _
          ∙ c.in_err-keep.ensures.goes _;
    }
