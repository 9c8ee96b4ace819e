use Rattle.std.proofs.Common.{◌∙◌, rules}
use Rattle.std.proofs.lemmas.Iterator.Search.{position_from_yields_List}
use borrow.Author.Tests.{tests}
use Rattle.address.proofs.Gaps.{is_gap, gap_pairs, pairs_from_windows}
use Rattle.address.proofs.address.find_gap.Goals as goal

pub returns-clause-is : goal.returns-clause-is
returns-clause-is c = position_from_yields_List is_gap _ _ c.position.result c.position.ensures.ran (pairs_from_windows c.args.text.now c.windows.ensures.size c.windows.ensures.rest) (λ x b q k. search (rules, tests)) ∙ gap_pairs c.args.text.now
