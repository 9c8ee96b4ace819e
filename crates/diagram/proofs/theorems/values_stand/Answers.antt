use Rattle.diagram.proofs.Statements.{meanings}
use Rattle.diagram.proofs.theorems.values_stand.Goals as goal

pub returns : goal.returns
returns c = meanings
