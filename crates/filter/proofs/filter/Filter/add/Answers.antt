use Rattle.std.proofs.Common.{sym, refl, rules}
use Rattle.std.proofs.lemmas.Result.{err_from_is_err_and}
use Rattle.steps.proofs.Adding.{admits_ok}
use Rattle.filter.proofs.Turning.{fits, add_refused, add_kept}
use Rattle.filter.proofs.filter.Filter.add.Goals as goal

pub invariant_of-self : goal.invariant_of-self
invariant_of-self g c =
    (add_refused g.E.Engine.rooms g.K.Kind.reading c.args.line.now c.in_ok-rule.rule _ _ _ _ _ (rw (← c.self.view_is) at c.in_ok-n.ensures) (sym c.in_ok-rule.ensures) (search rules) c.in_err-idle.ensures c.self.invariant).sound

pub returns-in_err-idle : goal.returns-in_err-idle
returns-in_err-idle g c =
    let p = err_from_is_err_and c.from_residual-in_err-idle.result c.from_residual-in_err-idle.ensures.1 in
    rw (p.1, p.2, ← c.self.view_is) (add_refused g.E.Engine.rooms g.K.Kind.reading c.args.line.now c.in_ok-rule.rule _ _ _ _ _ (rw (← c.self.view_is) at c.in_ok-n.ensures) (sym c.in_ok-rule.ensures) (search rules) c.in_err-idle.ensures c.self.invariant)

pub invariant_of-self-2 : goal.invariant_of-self-2
invariant_of-self-2 g c =
    let f = fits g.K.Kind.reading _ _ (rw (← c.self.view_is) at c.in_ok-n.ensures) in
    rw c.push.ensures (admits_ok g.E.Engine.rooms _ _ _ _ _ _ c.self.invariant _ (rw f.0 at c.in_ok-idle.ensures)).1

pub returns : goal.returns
returns g c =
    rw (← c.self.view_is) (add_kept g.E.Engine.rooms g.K.Kind.reading c.args.line.now c.in_ok-rule.rule _ _ _ _ _ _ (rw (← c.self.view_is) at c.in_ok-n.ensures) (sym c.in_ok-rule.ensures) (search rules) c.in_ok-idle.ensures (search rules) refl c.push.ensures c.self.invariant)
