use Rattle.std.proofs.Common.{rules}
use Rattle.text.proofs.Spelled.{reads_decimal}
use Rattle.text.proofs.numerals.read_decimal.Goals as goal

pub returns-clause-grammar : goal.returns-clause-grammar
returns-clause-grammar c = reads_decimal c.args.text.now _ (search rules)
