use Rattle.diagram.proofs.Rules.{rewriting}
use Rattle.diagram.proofs.theorems.rules_stand.Goals as goal

pub returns : goal.returns
returns c = rewriting
