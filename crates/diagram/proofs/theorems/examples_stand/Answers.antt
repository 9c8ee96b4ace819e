use Rattle.diagram.proofs.Statements.{examples}
use Rattle.diagram.proofs.theorems.examples_stand.Goals as goal

pub returns : goal.returns
returns c = examples
