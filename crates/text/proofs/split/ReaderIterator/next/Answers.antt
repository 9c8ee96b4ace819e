use Rattle.std.proofs.Common.{length, ap, rules}
use Rattle.std.proofs.lemmas.List.{take_rest}
use Rattle.text.proofs.Parts.{split_whole, split_at}
use Rattle.text.proofs.split.ReaderIterator.next.Goals as goal

pub returns-in_default-clause-steps : goal.returns-in_default-clause-steps
returns-in_default-clause-steps c = rw c.in_ok-rest.was (split_whole _ _ _ c.in_default.ensures.is)

pub returns-in_default-clause-goes : goal.returns-in_default-clause-goes
returns-in_default-clause-goes c = let shorter = ap length (returns-in_default-clause-steps c) in search rules

pub returns-clause-steps : goal.returns-clause-steps
returns-clause-steps c = rw c.in_ok-rest.was (simp take_rest (split_at _ _ _ _ c.in-Some.ensures.is))

pub returns-clause-goes : goal.returns-clause-goes
returns-clause-goes c = let shorter = ap length (returns-clause-steps c) in search rules
