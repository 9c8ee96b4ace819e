use Rattle.std.proofs.Common.{arith}
use Rattle.std.proofs.lemmas.Grind.{common_steps}
use Rattle.address.proofs.Refusing.{refuses_address}
use Rattle.address.proofs.Spelling.{accepts_spelling}
use Rattle.address.proofs.address.read_address.Goals as goal

pub returns-in-Some-clause-grammar : goal.returns-in-Some-clause-grammar
returns-in-Some-clause-grammar c = accepts_spelling c.args.text.now _ (grind (arith, common_steps))

pub returns-in-Some-clause-refusal : goal.returns-in-Some-clause-refusal
returns-in-Some-clause-refusal c = refuses_address c.args.text.now _ (grind (arith, common_steps))

pub returns-in-None-clause-grammar : goal.returns-in-None-clause-grammar
returns-in-None-clause-grammar c = accepts_spelling c.args.text.now _ (grind (arith, common_steps))

pub returns-in-None-clause-refusal : goal.returns-in-None-clause-refusal
returns-in-None-clause-refusal c = refuses_address c.args.text.now _ (grind (arith, common_steps))
