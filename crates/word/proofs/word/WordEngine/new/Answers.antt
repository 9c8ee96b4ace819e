use Rattle.std.proofs.Common.{rules}
use Rattle.word.specs.Meaning.{blanks}
use Rattle.word.proofs.word.WordEngine.new.Goals as goal

pub returns : goal.returns
returns c = search (rules, blanks)
