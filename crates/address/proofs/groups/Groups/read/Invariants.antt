use Rattle.text.specs.Split.{left}
use Rattle.address.proofs.Gather.{Sofar}
use Rattle.address.proofs.groups.Groups.read.Given as goal

abbrev pub invariant-loop-piece : goal.invariant-loop-piece
invariant-loop-piece l = Sofar l.all (left l.piece-iterator) (left l.fn.pieces)
