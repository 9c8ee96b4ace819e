-- Ternary diagrams as trees.
use Rattle.std.specs.Prelude.{ℕ, ◌+◌, Bool, true, false, cond, not, ◌&&◌, ◌||◌, List, [], ◌∷◌, length, ℤ, pos, negsuc, ◌==◌, nat_le, nat_lt, unsigned_abs}

-- τ, −τ, or a label with three parts
pub data Diagram : Type 0 where
  top bottom : Diagram
  node : ℤ → Diagram → Diagram → Diagram → Diagram

-- the labels are equal
abbrev pub eqℤ : ℤ → ℤ → Bool
eqℤ (pos a) (pos b) = a == b
eqℤ (pos a) (negsuc b) = false
eqℤ (negsuc a) (pos b) = false
eqℤ (negsuc a) (negsuc b) = a == b

-- the diagrams are the same
unfoldable pub same : Diagram → Diagram → Bool
same top top = true
same top bottom = false
same top (node y d e f) = false
same bottom top = false
same bottom bottom = true
same bottom (node y d e f) = false
same (node x a b c) top = false
same (node x a b c) bottom = false
same (node x a b c) (node y d e f) = eqℤ x y && (same a d && (same b e && same c f))

-- the absolute label; that of ±τ is one past the last variable n
abbrev pub level : ℕ → Diagram → ℕ
level n top = n + 1
level n bottom = n + 1
level n (node x a b c) = unsigned_abs x

-- absolute labels from 1 to n, larger in the parts
unfoldable pub ordered : ℕ → Diagram → Bool
ordered n top = true
ordered n bottom = true
ordered n (node x a b c) =
    nat_lt 0 (unsigned_abs x) && (nat_le (unsigned_abs x) n && (nat_lt (unsigned_abs x) (level n a) && (nat_lt (unsigned_abs x) (level n b) && (nat_lt (unsigned_abs x) (level n c)
    && (ordered n a && (ordered n b && ordered n c))))))

-- what an operation gives, with the diagrams formed on the way: a literal's diagram and every result of a reduction, ±τ apart
pub record Made : Type 0 where
  pub it : Diagram
  pub formed : List Diagram

-- the list has the diagram
unfoldable pub has : List Diagram → Diagram → Bool
has [] d = false
has (e ∷ es) d = same e d || has es d

-- no two are the same
unfoldable pub unlike : List Diagram → Bool
unlike [] = true
unlike (d ∷ ds) = not (has ds d) && unlike ds

-- each once
unfoldable pub once : List Diagram → List Diagram
once [] = []
once (d ∷ ds) = cond (has ds d) (once ds) (d ∷ once ds)

-- how many different diagrams stand in the list
abbrev pub count : List Diagram → ℕ
count ds = length (once ds)
