use Rattle.diagram.proofs.Rules.{negating}
use Rattle.diagram.proofs.theorems.negation_stands.Goals as goal

pub returns : goal.returns
returns c = negating
