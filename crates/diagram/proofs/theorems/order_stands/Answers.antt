use Rattle.diagram.proofs.Statements.{orders}
use Rattle.diagram.proofs.theorems.order_stands.Goals as goal

pub returns : goal.returns
returns c = orders
