use Rattle.std.proofs.Common.{rules}
use Rattle.text.proofs.Numbers.{sized_is}
use Rattle.text.proofs.numerals.sized_number.Goals as goal

pub returns : goal.returns
returns g c =
    let h = sized_is g.D.Digits.value g.D.Digits.BASE g.met.D.Digits.positive g.met.D.Digits.below c.args.most c.args.text.now c.number.result c.requires (search rules) c.if-text-most.false c.number.ensures in
    record { is = h.0; within = h.1 }
