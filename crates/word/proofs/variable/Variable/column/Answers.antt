use Rattle.std.proofs.Common.{refl, arith}
use Rattle.word.specs.Meaning.{means_variable}
use Rattle.word.proofs.variable.Variable.column.Goals as goal

pub returns-in-0 : goal.returns-in-0
returns-in-0 c = means_variable c.args.self.n c.args.self.v 0xaaaa_aaaa_aaaa_aaaa 0 c.args.self.few c.args.self.low c.args.self.high (omega arith) refl

pub returns-in-1 : goal.returns-in-1
returns-in-1 c = means_variable c.args.self.n c.args.self.v 0xcccc_cccc_cccc_cccc 1 c.args.self.few c.args.self.low c.args.self.high (omega arith) refl

pub returns-in-2 : goal.returns-in-2
returns-in-2 c = means_variable c.args.self.n c.args.self.v 0xf0f0_f0f0_f0f0_f0f0 2 c.args.self.few c.args.self.low c.args.self.high (omega arith) refl

pub returns-in-3 : goal.returns-in-3
returns-in-3 c = means_variable c.args.self.n c.args.self.v 0xff00_ff00_ff00_ff00 3 c.args.self.few c.args.self.low c.args.self.high (omega arith) refl

pub returns-in-4 : goal.returns-in-4
returns-in-4 c = means_variable c.args.self.n c.args.self.v 0xffff_0000_ffff_0000 4 c.args.self.few c.args.self.low c.args.self.high (omega arith) refl

pub returns-in_default : goal.returns-in_default
returns-in_default c = means_variable c.args.self.n c.args.self.v 0xffff_ffff_0000_0000 5 c.args.self.few c.args.self.low c.args.self.high (omega arith) refl
