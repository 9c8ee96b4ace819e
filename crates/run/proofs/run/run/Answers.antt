use Rattle.std.proofs.Common.{[], ap, sym}
use Rattle.std.proofs.lemmas.List.{take_more, take_all}
use Rattle.run.proofs.Runs.{one_more, holds, worked}
use Rattle.run.proofs.run.run.Goals as goal

pub loop-call-preserved : goal.loop-call-preserved
loop-call-preserved g c =
    let there = c.loop-call-test.true in
    rw (c.push.ensures.items, c.in_ok-push.was) (rw (← take_more) at (one_more g.E.Engine.rooms g.K.Kind.reading _ _ _ _ _ _ _ _ _ _ c.loop-call.invariant c.perform.ensures))

pub returns : goal.returns
returns g c =
    let led = rw (take_all c.loop-call.call-index c.args.calls.now c.loop-call-test.false) at c.loop-call.invariant in
    record {
      law = rw c.new-filter.ensures.vars at (holds g.E.Engine.rooms g.K.Kind.reading g.met.K.Kind.lawful _ _ _ _ _ _ led);
      rooms = rw (ap (λ p. p.0) (sym (c.new-filter.ensures.row.goes []))) at (worked g.E.Engine.rooms g.K.Kind.reading _ _ _ _ _ _ led);
    }
