use Rattle.std.proofs.Common.{rules}
use Rattle.word.specs.Meaning.{negates}
use Rattle.word.proofs.word.calls.WordEngineEngine.negate.Goals as goal

pub returns : goal.returns
returns c = let wrote = rw c.word_in.ensures at c.put.ensures in rw (← c.in_ok-d.ensures, ← c.in_ok-a.ensures) (search (rules, negates))
