use Rattle.std.proofs.Common.{◌≡◌, codes, arith, rules}
use Rattle.std.proofs.lemmas.Slice.Eq.{text_from_reads}
use Rattle.script.proofs.command.read_argument.Goals as goal

pub returns-in_ok-ok_or-in-withdraw : goal.returns-in_ok-ok_or-in-withdraw
returns-in_ok-ok_or-in-withdraw c = let e : c.args.word.now ≡ codes "withdraw" = text_from_reads _ _ (omega arith) (search rules) in rw e (search rules)
