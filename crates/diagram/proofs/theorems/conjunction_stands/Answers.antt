use Rattle.diagram.proofs.Table.{conjunction}
use Rattle.diagram.proofs.theorems.conjunction_stands.Goals as goal

pub returns : goal.returns
returns c = conjunction
