use Rattle.std.proofs.Common.{rules}
use Rattle.word.specs.Meaning.{meets}
use Rattle.word.proofs.word.calls.WordEngineEngine.meet.Goals as goal

pub returns : goal.returns
returns c = let wrote = rw (c.word_in.ensures, c.word_in-2.ensures) at c.put.ensures in rw (← c.in_ok-d.ensures, ← c.in_ok-a.ensures, ← c.in_ok-b.ensures) (search (rules, meets))
