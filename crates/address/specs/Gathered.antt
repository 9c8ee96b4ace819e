-- The groups that have been read, as a count and a number.
use Rattle.std.specs.Prelude.{◌≡◌, ℕ, ◌≤◌, min, List, length, Ok, Result}
use Rattle.std.specs.Int.Digits.{number_from_digits}
use Rattle.address.specs.declared.fault.GroupFault.{GroupFault}
use Rattle.address.specs.declared.groups.Groups.{Groups}

-- the count of these groups, where nine stands for more, and the number of up to eight
pub record Tally (g : Groups) (gs : List ℕ) : Type 0 where
  pub count : g.count ≡ min (length gs) 9
  pub value : length gs ≤ 8 → g.value ≡ number_from_digits 65536 gs

-- the answer is groups, and this is their tally
pub record Gathered (g : Groups) (r : Result (List ℕ) GroupFault) : Type 0 where
  pub items : List ℕ
  pub are : r ≡ Ok items
  pub tally : Tally g items
