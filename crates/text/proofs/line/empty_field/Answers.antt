use Rattle.std.proofs.Common.{◌≡◌, length, find, ◌==◌, ap, ◌∙◌, rules}
use Rattle.std.specs.Option.{option_map}
use Rattle.std.proofs.lemmas.Iterator.Consumers.{YieldsList-from_first}
use Rattle.std.proofs.lemmas.Iterator.Search.{find_from_yields_List}
use borrow.Author.Tests.{tests}
use Rattle.text.specs.Split.{Part, part, left, split}
use Rattle.text.proofs.Empty.{found_empty}
use Rattle.text.proofs.line.empty_field.Goals as goal

pub returns : goal.returns
returns c =
    let e : option_map part c.find.result ≡ find (λ p. length p.text == 0) (split 32 0 c.args.line.now) = find_from_yields_List (λ p. length p.text == 0) c.find.new.self _ c.find.result c.find.ensures.ran (YieldsList-from_first part left _ c.new.ensures) (λ x b q k. search (rules, tests)) in
    let m : c.map.result ≡ option_map (λ (p : Part). p.place) (option_map part c.find.result) = search rules in
    m ∙ ap (option_map (λ (p : Part). p.place)) e ∙ found_empty (split 32 0 c.args.line.now)
