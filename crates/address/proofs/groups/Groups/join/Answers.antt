use Rattle.std.proofs.Common.{◌+◌, ap, arith}
use Rattle.address.proofs.Shifts.{joined_fits, shifted}
use Rattle.address.proofs.groups.Groups.join.Goals as goal

pub overflow_add-result : goal.overflow_add-result
overflow_add-result c = omega (arith, shifted _ _ c.args.self.fits (omega arith), joined_fits _ _ _ _ c.args.self.fits c.args.back.fits (omega arith))

pub returns : goal.returns
returns c = ap (λ n. n + c.args.back.value) (shifted _ _ c.args.self.fits (omega arith))
