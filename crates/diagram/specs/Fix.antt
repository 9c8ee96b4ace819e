-- Literals, fixing a variable, and forgetting it by forall.
use Rattle.std.specs.Prelude.{ℕ, zero, suc, ◌+◌, Bool, true, false, ℤ, pos, ◌==◌, int_lt, unsigned_abs}
use Rattle.diagram.specs.Diagrams.{Diagram, top, bottom, node, same, Made}
use Rattle.diagram.specs.Rules.{negate, reduce, stored}
use Rattle.diagram.specs.Meet.{meet, done, ◌>>=◌}

-- the diagram of the variable v, which is formed
abbrev pub literal : ℕ → Made
literal v = stored (pos v) bottom top top

-- x·t, where `negative` says that x is
abbrev pub turn : Bool → Diagram → Made
turn true t = negate t
turn false t = done t

-- x·(h ∧ c)
unfoldable pub fix_here : ℕ → Bool → Diagram → Diagram → Made
fix_here n negative h c = do
  m ← meet n h c
  turn negative m

-- the parts fixed, and reduced
unfoldable pub fix_parts : ℤ → Made → Made → Made → Made
fix_parts x fa fb fc = do
  a ← fa
  b ← fb
  c ← fc
  reduce x a b c

-- at a node, by whether its label is that of the variable, and by the bit
abbrev pub fix_node : ℕ → Bool → Bool → ℤ → (a b c : Diagram) → (fa fb fc : Made) → Made
fix_node n true false x a b c fa fb fc = fix_here n (int_lt x (pos 0)) a c
fix_node n true true x a b c fa fb fc = fix_here n (int_lt x (pos 0)) b c
fix_node n false bit x a b c fa fb fc = fix_parts x fa fb fc

-- the variable v held at the bit
unfoldable pub fix : ℕ → ℕ → Bool → Diagram → Made
fix n v bit top = done top
fix n v bit bottom = done bottom
fix n v bit (node x a b c) = fix_node n (unsigned_abs x == v) bit x a b c (fix n v bit a) (fix n v bit b) (fix n v bit c)

-- the conjunction of both fixes
unfoldable pub forall : ℕ → ℕ → Diagram → Made
forall n v d = do
  low ← fix n v false d
  high ← fix n v true d
  meet n low high

-- for all variables 1 to k, in rising order
unfoldable pub foralls : ℕ → ℕ → Diagram → Made
foralls n zero d = done d
foralls n (suc k) d = do
  e ← foralls n k d
  forall n (k + 1) e

-- what `empty` works out: τ says that d is empty
unfoldable pub emptied : ℕ → Diagram → Made
emptied n d = do
  m ← negate d
  foralls n n m

-- the answer of `empty`: d is false under every assignment
abbrev pub empty : ℕ → Diagram → Bool
empty n d = same (emptied n d).it top
