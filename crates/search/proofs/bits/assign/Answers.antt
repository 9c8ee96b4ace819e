use Rattle.std.proofs.Common.{◌-◌, ◌%◌, arith, rules}
use Rattle.std.proofs.lemmas.Nat.{one_shl}
use Rattle.search.proofs.Bytes.{raised}
use Rattle.search.proofs.bits.assign.Goals as goal

pub returns-then-bit : goal.returns-then-bit
returns-then-bit c u a b = rw (c.if-bit.true, one_shl (7 - (c.args.v - 1) % 8) 8 (omega arith)) (raised c.args.bits.now c.args.v c.requires.from c.requires.to (search rules) u a b)
