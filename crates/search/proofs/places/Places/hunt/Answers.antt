use Rattle.std.proofs.Common.{◌≡◌, suc, ◌-◌, arith}
use Rattle.std.proofs.lemmas.Result.{err_from_is_err_and}
use Rattle.engine.specs.Ops.{bit_at}
use Rattle.search.proofs.Picks.{trail_more}
use Rattle.search.proofs.places.Places.hunt.Goals as goal

pub loop-v-preserved : goal.loop-v-preserved
loop-v-preserved g c = trail_more g.E.Engine.rooms c.args.self c.loop-v.bits _ c.loop-v.v _ _ _ _ c.in_ok-bit.bit (omega arith) (omega arith) (omega (arith, g.met.E.Engine.few c.args.e.now)) c.loop-v.invariant.0 c.loop-v.invariant.1 c.assign.ensures c.in_ok-bit.ensures

pub returns-in_ok-bit : goal.returns-in_ok-bit
returns-in_ok-bit g c = (trail_more g.E.Engine.rooms c.args.self c.loop-v.bits _ c.loop-v.v _ _ _ _ c.in_ok-bit.bit (omega arith) (omega arith) (omega (arith, g.met.E.Engine.few c.args.e.now)) c.loop-v.invariant.0 c.loop-v.invariant.1 c.assign.ensures c.in_ok-bit.ensures).1

pub returns-in_err-bit : goal.returns-in_err-bit
returns-in_err-bit g c =
    let p = err_from_is_err_and c.from_residual.result c.from_residual.ensures.1 in
    let e : suc (c.loop-v.v - 1) ≡ c.loop-v.v = omega arith in
    rw (p.1, p.2) (bit_at c.loop-v.bits, c.loop-v.v - 1, _, omega arith, c.loop-v.invariant.1, rw e c.in_err-bit.ensures)
