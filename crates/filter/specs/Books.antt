-- The two books of a filter as lists of rules.
use Rattle.std.specs.Prelude.{List, [], take}
use Rattle.kind.specs.declared.rule.Rule.{Rule}
use Rattle.filter.specs.declared.book.Book.{Book}

-- the live book and the draft
pub record Books : Type 0 where
  pub live : List Rule
  pub draft : List Rule

-- both books are empty
abbrev pub no_rules : Books
no_rules = record { live = []; draft = [] }

-- the rules in a book, in their order
abbrev pub held_in : Book → List Rule
held_in b = take b.count b.rules

-- the rules of both, in their order
abbrev pub books : Book → Book → Books
books live draft = record { live = held_in live; draft = held_in draft }

-- what a filter holds: an engine, and the two books
pub record Held (E : Type 0) : Type 0 where
  pub engine : E
  pub books : Books
