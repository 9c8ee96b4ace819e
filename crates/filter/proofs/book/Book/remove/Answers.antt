use Rattle.std.proofs.Common.{◌-◌, ◌∙◌, ap, take, rules}
use Rattle.filter.proofs.Removed.{removed}
use Rattle.filter.proofs.book.Book.remove.Goals as goal

pub returns : goal.returns
returns c = ap (take (c.args.self.now.count - 1)) c.copy_within.ensures.after ∙ removed c.args.self.now.rules c.args.at c.args.self.now.count c.requires (search rules)
