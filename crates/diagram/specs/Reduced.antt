-- Reduced diagrams: no rewrite rule applies at any node.
use Rattle.std.specs.Prelude.{Some, None, Option, ℕ, Bool, true, false, ◌&&◌, List, [], ◌∷◌}
use Rattle.diagram.specs.Diagrams.{Diagram, top, bottom, node, ordered}
use Rattle.diagram.specs.Rules.{rule}
use Rattle.diagram.specs.declared.rule.Rule.{Rule}

-- no rule applies
abbrev pub stops : Option Rule → Bool
stops (Some r) = false
stops None = true

-- no rule applies at any node of the diagram
unfoldable pub reduced : Diagram → Bool
reduced top = true
reduced bottom = true
reduced (node x a b c) = stops (rule x a b c) && (reduced a && (reduced b && reduced c))

-- what an engine with n variables may store: ordered and reduced
abbrev pub proper : ℕ → Diagram → Bool
proper n d = ordered n d && reduced d

-- every diagram of the list is ordered and reduced
unfoldable pub all_proper : ℕ → List Diagram → Bool
all_proper n [] = true
all_proper n (d ∷ ds) = proper n d && all_proper n ds
