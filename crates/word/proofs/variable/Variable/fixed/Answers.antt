use Rattle.word.specs.Meaning.{held_high, held_low}
use Rattle.word.proofs.variable.Variable.fixed.Goals as goal

pub returns-then-high : goal.returns-then-high
returns-then-high c = held_high c.args.self.n c.args.self.v c.args.word c.column-column.result c.step-step.result c.args.high c.args.self.few c.args.self.low c.args.self.high c.column-column.ensures c.step-step.ensures.exact c.if-high.true

pub returns-else-high : goal.returns-else-high
returns-else-high c = held_low c.args.self.n c.args.self.v c.args.word c.column-column.result c.step-step.result c.args.high c.args.self.few c.args.self.low c.args.self.high c.column-column.ensures c.step-step.ensures.exact c.if-high.false
