-- What the operations mean, and what unequal diagrams may mean.
use Rattle.std.specs.Prelude.{◌≡◌, ℕ, ◌≤◌, Bool, true, false, not, ◌&&◌, ◌↔◌, ℤ}
use Rattle.diagram.specs.Diagrams.{Diagram, bottom, node, ordered, same}
use Rattle.diagram.specs.Rules.{reduce, negate}
use Rattle.diagram.specs.Meet.{meet}
use Rattle.diagram.specs.Fix.{literal, fix, forall, empty}
use Rattle.diagram.specs.Reduced.{proper}
use Rattle.diagram.specs.Values.{Assignment, value, held}

-- d is false under every assignment
abbrev pub Nowhere : Diagram → Type 0
Nowhere d = (g : Assignment) → value d g ≡ false

pub record Meaning (n : ℕ) : Type 0 where
  -- a reduction keeps the value of the quadruple
  pub of_reduce : (x : ℤ) (a b c : Diagram) (g : Assignment) → ordered n (node x a b c) ≡ true → value (reduce x a b c).it g ≡ value (node x a b c) g
  -- negation is the complement
  pub of_negate : (d : Diagram) (g : Assignment) → ordered n d ≡ true → value (negate d).it g ≡ not (value d g)
  -- conjunction is and
  pub of_meet : (s t : Diagram) (g : Assignment) → ordered n s ≡ true → ordered n t ≡ true → value (meet n s t).it g ≡ (value s g && value t g)
  -- a literal is its variable
  pub of_literal : (v : ℕ) (g : Assignment) → 1 ≤ v → value (literal v).it g ≡ g v
  -- fixing holds the variable at the bit
  pub of_fix : (v : ℕ) (bit : Bool) (d : Diagram) (g : Assignment) → ordered n d ≡ true → value (fix n v bit d).it g ≡ value d (held g v bit)
  -- forall is true where both fixes are
  pub of_forall : (v : ℕ) (d : Diagram) (g : Assignment) → ordered n d ≡ true
      → value (forall n v d).it g ≡ (value d (held g v false) && value d (held g v true))
  -- empty says yes exactly of what is false under every assignment
  pub of_empty : (d : Diagram) → ordered n d ≡ true → (empty n d ≡ true) ↔ Nowhere d
  -- only the variables 1 to n matter
  pub only : (d : Diagram) (g h : Assignment) → ordered n d ≡ true → ((v : ℕ) → 1 ≤ v → v ≤ n → g v ≡ h v) → value d g ≡ value d h

-- two different diagrams, both ordered and reduced, that mean the same function
abbrev pub Twins : ℕ → Diagram → Diagram → Type 0
Twins n s t = (proper n s ≡ true) × (proper n t ≡ true) × (same s t ≡ false) × ((g : Assignment) → value s g ≡ value t g)

-- a diagram, ordered and reduced, that is not −τ and yet is false under every assignment
abbrev pub Hidden : ℕ → Diagram → Type 0
Hidden n d = (proper n d ≡ true) × (same d bottom ≡ false) × Nowhere d
