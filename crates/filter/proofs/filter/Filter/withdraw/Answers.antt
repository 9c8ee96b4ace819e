use Rattle.std.proofs.Common.{refl, rules}
use Rattle.std.proofs.lemmas.Result.{err_from_is_err_and}
use Rattle.filter.proofs.Redoing.{withdraw_done, withdraw_refused}
use Rattle.filter.proofs.filter.Filter.withdraw.Goals as goal

pub invariant_of-self : goal.invariant_of-self
invariant_of-self g c =
    (withdraw_refused g.E.Engine.rooms g.K.Kind.reading c.args.number _ _ _ _ (rw (← c.self.view_is) at c.in_ok-n.ensures) (search rules) (search rules) _ (rw (c.rules.ensures, c.remove.ensures) at c.in_err-rebuild.ensures) c.self.invariant).sound

pub returns-in_err-rebuild : goal.returns-in_err-rebuild
returns-in_err-rebuild g c =
    let p = err_from_is_err_and c.from_residual-in_err-rebuild.result c.from_residual-in_err-rebuild.ensures.1 in
    rw (p.1, p.2, ← c.self.view_is) (withdraw_refused g.E.Engine.rooms g.K.Kind.reading c.args.number _ _ _ _ (rw (← c.self.view_is) at c.in_ok-n.ensures) (search rules) (search rules) _ (rw (c.rules.ensures, c.remove.ensures) at c.in_err-rebuild.ensures) c.self.invariant)

pub invariant_of-self-2 : goal.invariant_of-self-2
invariant_of-self-2 g c =
    (withdraw_done g.E.Engine.rooms g.K.Kind.reading c.args.number _ _ _ _ (rw (← c.self.view_is) at c.in_ok-n.ensures) (search rules) (search rules) tt _ (rw (c.rules.ensures, c.remove.ensures) at c.in_ok-rebuild.ensures) refl c.remove.ensures c.self.invariant).sound

pub returns : goal.returns
returns g c =
    rw (← c.self.view_is) (withdraw_done g.E.Engine.rooms g.K.Kind.reading c.args.number _ _ _ _ (rw (← c.self.view_is) at c.in_ok-n.ensures) (search rules) (search rules) tt _ (rw (c.rules.ensures, c.remove.ensures) at c.in_ok-rebuild.ensures) refl c.remove.ensures c.self.invariant)
