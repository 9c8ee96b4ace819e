use Rattle.script.proofs.Halves.{spaced_words}
use Rattle.script.proofs.command.read_words.Goals as goal

pub returns-in-Some : goal.returns-in-Some
returns-in-Some c = spaced_words c.args.line.now _ _ _ c.in-Some.ensures c.read_rest.ensures
