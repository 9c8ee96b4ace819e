use Rattle.std.proofs.Common.{◌≡◌, ℕ, ◌-◌, ◌≤◌, false}
use Rattle.engine.specs.Ops.{bit_at}
use Rattle.search.specs.Seeks.{Trail}
use Rattle.search.proofs.places.Places.hunt.Given as goal

abbrev pub invariant-loop-v : goal.invariant-loop-v
invariant-loop-v g l = ((u : ℕ) → l.v ≤ u → u ≤ 144 → bit_at l.bits u ≡ false) × Trail g.E.Engine.rooms l.self (bit_at l.bits) (l.v - 1) (g.E.Engine.view l.initial.e) (g.E.Engine.view l.e)
