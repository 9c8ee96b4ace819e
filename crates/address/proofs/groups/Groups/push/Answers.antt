use Rattle.std.proofs.Common.{◌+◌, ◌*◌, ◌^◌, ◌<◌, arith}
use Rattle.text.proofs.Numbers.{power_below}
use Rattle.address.proofs.groups.Groups.push.Goals as goal
use Rattle.address.proofs.groups.Groups.push.Goals.{Then-self-lt-GROUPS}

fits : (c : Then-self-lt-GROUPS) → c.args.self.now.value * 65536 + c.args.v < 65536 ^ 8
fits c = power_below 65536 _ _ _ 8 (omega arith) c.args.self.now.fits (omega arith) c.if-self-lt-GROUPS.true

pub overflow_mul-self : goal.overflow_mul-self
overflow_mul-self c = omega (arith, fits c)

pub overflow_add-self : goal.overflow_add-self
overflow_add-self c = omega (arith, fits c)
