use Rattle.std.proofs.lemmas.Result.{err_from_is_err_and}
use Rattle.filter.proofs.Comparing.{compare_alike, compare_differ, compare_refused}
use Rattle.filter.proofs.filter.Filter.compare.Goals as goal

pub invariant_of-self : goal.invariant_of-self
invariant_of-self g c =
    (compare_refused g.E.Engine.rooms g.K.Kind.reading c.args.place.now _ _ _ _ (rw (← c.self.view_is) at c.in_ok-bits.ensures) _ c.in_err-bits-2.ensures c.self.invariant).sound

pub returns-in_err-bits-2-clause-turn : goal.returns-in_err-bits-2-clause-turn
returns-in_err-bits-2-clause-turn g c =
    let p = err_from_is_err_and c.from_residual-in_err-bits-2.result c.from_residual-in_err-bits-2.ensures.1 in
    rw (p.1, p.2, ← c.self.view_is) (compare_refused g.E.Engine.rooms g.K.Kind.reading c.args.place.now _ _ _ _ (rw (← c.self.view_is) at c.in_ok-bits.ensures) _ c.in_err-bits-2.ensures c.self.invariant)

pub invariant_of-self-in_default : goal.invariant_of-self-in_default
invariant_of-self-in_default g c =
    (compare_alike g.E.Engine.rooms g.K.Kind.reading c.args.place.now _ _ _ _ (rw (← c.self.view_is) at c.in_ok-bits.ensures) c.in_ok-bits-2.field-0 c.in_default.is c.in_ok-bits-2.ensures c.self.invariant).sound

pub returns-in_default-clause-turn : goal.returns-in_default-clause-turn
returns-in_default-clause-turn g c =
    rw (← c.self.view_is) (compare_alike g.E.Engine.rooms g.K.Kind.reading c.args.place.now _ _ _ _ (rw (← c.self.view_is) at c.in_ok-bits.ensures) c.in_ok-bits-2.field-0 c.in_default.is c.in_ok-bits-2.ensures c.self.invariant)

pub invariant_of-self-2 : goal.invariant_of-self-2
invariant_of-self-2 g c =
    (compare_differ g.E.Engine.rooms g.K.Kind.reading c.args.place.now _ _ _ _ (rw (← c.self.view_is) at c.in_ok-bits.ensures) c.in_ok-bits-2.field-0 c.in-Some.bits _ c.in-Some.is c.in_ok-bits-2.ensures c.back.ensures c.self.invariant).sound

pub returns-clause-turn : goal.returns-clause-turn
returns-clause-turn g c =
    rw (← c.self.view_is) (compare_differ g.E.Engine.rooms g.K.Kind.reading c.args.place.now _ _ _ _ (rw (← c.self.view_is) at c.in_ok-bits.ensures) c.in_ok-bits-2.field-0 c.in-Some.bits _ c.in-Some.is c.in_ok-bits-2.ensures c.back.ensures c.self.invariant)
