use Rattle.std.proofs.Common.{rules}
use Rattle.address.proofs.Barring.{refuses_prefix}
use Rattle.address.proofs.Prefixes.{accepts_prefix}
use Rattle.address.proofs.prefix.Prefix.read.Goals as goal

pub returns-clause-grammar : goal.returns-clause-grammar
returns-clause-grammar c = accepts_prefix c.args.field.place c.args.field.text.now _ (search rules)

pub returns-clause-refusal : goal.returns-clause-refusal
returns-clause-refusal c = refuses_prefix c.args.field.place c.args.field.text.now _ (search rules)
