-- What diagrams the operations give and form: ordered ones, and reduced ones where the arguments are.
use Rattle.std.specs.Prelude.{◌≡◌, ℕ, ◌+◌, ◌≤◌, min, Bool, true, ℤ, unsigned_abs}
use Rattle.diagram.specs.Diagrams.{Diagram, node, level, ordered, Made}
use Rattle.diagram.specs.Rules.{reduce, negate}
use Rattle.diagram.specs.Meet.{meet}
use Rattle.diagram.specs.Fix.{literal, fix, forall, foralls, emptied}
use Rattle.diagram.specs.Reduced.{reduced, all_proper}
use Rattle.diagram.specs.RuleLaws.{Settled}

-- ordered with labels from 1 to n, and no absolute label below y
pub record Deep (n y : ℕ) (d : Diagram) : Type 0 where
  pub fine : ordered n d ≡ true
  pub past : y ≤ level n d

-- the same, and reduced
pub record Whole (n y : ℕ) (d : Diagram) : Type 0 where
  pub deep : Deep n y d
  pub rests : reduced d ≡ true

-- the result is ordered and reduced, and so is everything formed on the way
pub record Well (n y : ℕ) (m : Made) : Type 0 where
  pub whole : Whole n y m.it
  pub all : all_proper n m.formed ≡ true

-- ordered diagrams give ordered diagrams, and no operation brings in a smaller label
pub record Order (n : ℕ) : Type 0 where
  pub of_literal : (v : ℕ) → 1 ≤ v → v ≤ n → Deep n v (literal v).it
  pub of_reduce : (x : ℤ) (a b c : Diagram) → ordered n (node x a b c) ≡ true → Deep n (unsigned_abs x) (reduce x a b c).it
  pub of_negate : (d : Diagram) → ordered n d ≡ true → Deep n (level n d) (negate d).it
  pub of_meet : (s t : Diagram) → ordered n s ≡ true → ordered n t ≡ true → Deep n (min (level n s) (level n t)) (meet n s t).it
  pub of_fix : (v : ℕ) (bit : Bool) (d : Diagram) → ordered n d ≡ true → Deep n (level n d) (fix n v bit d).it
  pub of_forall : (v : ℕ) (d : Diagram) → ordered n d ≡ true → Deep n (level n d) (forall n v d).it
  -- what `empty` works out has no label left: it is τ or −τ
  pub of_emptied : (d : Diagram) → ordered n d ≡ true → Deep n (n + 1) (emptied n d).it

-- diagrams that are ordered and reduced give and form such diagrams alone
pub record Reduction (n : ℕ) : Type 0 where
  -- `reduced` says what it should: at each node no rule changes the quadruple
  pub settled : (x : ℤ) (a b c : Diagram) → reduced (node x a b c) ≡ true → Settled x a b c
  pub of_literal : (v : ℕ) → 1 ≤ v → v ≤ n → Well n v (literal v)
  pub of_reduce : (x : ℤ) (a b c : Diagram) → ordered n (node x a b c) ≡ true → reduced a ≡ true → reduced b ≡ true → reduced c ≡ true
      → Well n (unsigned_abs x) (reduce x a b c)
  pub of_negate : (y : ℕ) (d : Diagram) → Whole n y d → Well n y (negate d)
  pub of_meet : (y : ℕ) (s t : Diagram) → Whole n y s → Whole n y t → Well n y (meet n s t)
  pub of_fix : (v y : ℕ) (bit : Bool) (d : Diagram) → Whole n y d → Well n y (fix n v bit d)
  pub of_forall : (v y : ℕ) (d : Diagram) → Whole n y d → Well n y (forall n v d)
  pub of_foralls : (k y : ℕ) (d : Diagram) → Whole n y d → Well n y (foralls n k d)
  pub of_emptied : (y : ℕ) (d : Diagram) → Whole n y d → Well n y (emptied n d)
