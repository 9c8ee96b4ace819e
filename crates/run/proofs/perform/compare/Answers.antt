use Rattle.std.proofs.Common.{rules}
use Rattle.run.proofs.Placing.{turn_shown}
use Rattle.run.proofs.perform.compare.Goals as goal

pub returns-in-Differs : goal.returns-in-Differs
returns-in-Differs g c = turn_shown g.E.Engine.rooms g.K.Kind.reading g.met.K.Kind.lawful _ _ _ _ _ _ _ (search rules) c.in_ok-compare.ensures.turn
