use Rattle.std.proofs.Common.{◌≡◌, codes, refl, arith, rules}
use Rattle.std.proofs.lemmas.Slice.Eq.{text_from_reads}
use Rattle.script.proofs.command.read_alone.Goals as goal

pub returns-in-commit : goal.returns-in-commit
returns-in-commit c = let e : c.args.word.now ≡ codes "commit" = text_from_reads _ _ (omega arith) (search rules) in rw e refl

pub returns-in-compare : goal.returns-in-compare
returns-in-compare c = let e : c.args.word.now ≡ codes "compare" = text_from_reads _ _ (omega arith) (search rules) in rw e refl
