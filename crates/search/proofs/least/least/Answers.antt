use Rattle.search.proofs.Picks.{finds}
use Rattle.search.proofs.least.least.Goals as goal

pub returns : goal.returns
returns g c = finds g.E.Engine.rooms _ _ (g.E.Engine.view c.seek-found.new.e) _ _ (rw (← c.or_swept.ensures.same) at c.seek-found.ensures) c.or_swept.ensures.swept
