use Rattle.std.proofs.Common.{◌≡◌, false, codes, refl, arith, rules}
use Rattle.std.specs.Str.{bytes_eq}
use Rattle.std.proofs.lemmas.Slice.Eq.{text_from_reads}
use Rattle.script.proofs.command.read_rest.Goals as goal

pub returns-in-addhex : goal.returns-in-addhex
returns-in-addhex c = let e : c.args.word.now ≡ codes "addhex" = text_from_reads _ _ (omega arith) (search rules) in rw e refl

pub returns-in_default : goal.returns-in_default
returns-in_default c =
    let a : bytes_eq c.args.word.now (codes "add") ≡ false = search rules in
    let b : bytes_eq c.args.word.now (codes "addhex") ≡ false = search rules in
    let d : bytes_eq c.args.word.now (codes "judge") ≡ false = search rules in
    rw (a, b, d) c.read_argument.ensures
