use Rattle.std.proofs.Common.{rules}
use Rattle.text.proofs.Spelled.{reads_group}
use Rattle.text.proofs.numerals.read_group.Goals as goal

pub returns-clause-grammar : goal.returns-clause-grammar
returns-clause-grammar c = reads_group c.args.text.now _ (search rules)
