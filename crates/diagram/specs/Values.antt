-- What a diagram means: its value under an assignment.
use Rattle.std.specs.Prelude.{ℕ, Bool, true, false, cond, not, ◌&&◌, pos, ◌==◌, int_lt, unsigned_abs}
use Rattle.diagram.specs.Diagrams.{Diagram, top, bottom, node}

-- a truth value for each variable
abbrev pub Assignment : Type 0
Assignment = ℕ → Bool

-- the complement where `negative` says so
abbrev pub turned : Bool → Bool → Bool
turned true r = not r
turned false r = r

-- c and (b where the variable is 1, a where it is 0); the complement where the label is negative
abbrev pub mean : (negative bit a b c : Bool) → Bool
mean negative bit a b c = turned negative (c && cond bit b a)

-- the value of a diagram: τ is true, −τ is false, a node means what its label says
unfoldable pub value : Diagram → Assignment → Bool
value top g = true
value bottom g = false
value (node x a b c) g = mean (int_lt x (pos 0)) (g (unsigned_abs x)) (value a g) (value b g) (value c g)

-- the assignment with the variable v held at a bit
abbrev pub held : Assignment → ℕ → Bool → Assignment
held g v bit k = cond (k == v) bit (g k)
