use Rattle.diagram.proofs.Fixes.{fixing}
use Rattle.diagram.proofs.theorems.fixing_stands.Goals as goal

pub returns : goal.returns
returns c = fixing
