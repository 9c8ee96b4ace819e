use Rattle.address.proofs.Gather.{gap_ok}
use Rattle.address.proofs.address.read_gapped.Goals as goal

pub returns : goal.returns
returns c = gap_ok _ _ _ _ _ c.in_ok-front.ensures c.in_ok-back.ensures c.if-front-back-gt-BESIDE_MAX.false c.join.ensures
