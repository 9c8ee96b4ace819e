use Rattle.diagram.proofs.Statements.{reductions}
use Rattle.diagram.proofs.theorems.reduction_stands.Goals as goal

pub returns : goal.returns
returns c = reductions
