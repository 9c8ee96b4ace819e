use Rattle.std.proofs.Common.{rules}
use Rattle.word.specs.Meaning.{writes}
use Rattle.word.proofs.word.WordEngine.put.Goals as goal

pub returns : goal.returns
returns c = rw c.index.ensures (search (rules, writes))
