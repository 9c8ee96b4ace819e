use Rattle.std.proofs.Common.{sym, arith}
use Rattle.std.proofs.lemmas.Grind.{common_steps}
use Rattle.filter.proofs.Turning.{judge_done}
use Rattle.filter.proofs.filter.Filter.judge.Goals.{then-blocked, else-blocked}
use Rattle.filter.proofs.filter.Filter.judge.Goals as goal

pub returns : goal.returns
returns g c =
    rw (← c.self.view_is) (judge_done g.E.Engine.rooms g.K.Kind.reading c.args.frame.now c.in_ok-bits-2.bits _ _ _ _ c.in_ok-blocked.blocked _ (rw (← c.self.view_is) at c.in_ok-bits.ensures) (sym c.in_ok-bits-2.ensures) c.in_ok-blocked.ensures (grind (arith, common_steps)) c.self.invariant)
