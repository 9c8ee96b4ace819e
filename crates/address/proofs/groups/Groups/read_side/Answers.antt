use Rattle.address.proofs.Gather.{side_some}
use Rattle.address.proofs.groups.Groups.read_side.Goals as goal

pub returns : goal.returns
returns c = rw (side_some c.args.text.now c.args.start c.if-start-text.false, ← c.starting.ensures) c.read.ensures
