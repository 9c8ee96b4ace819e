-- Literals, fixing, forall and empty as people write them: each is an equation of the result and of what is formed.
use Rattle.std.specs.Prelude.{◌≡◌, ℕ, ◌+◌, Bool, true, false, [], ◌∷◌, ℤ, pos, ◌≢◌, int_lt, unsigned_abs}
use Rattle.diagram.specs.Diagrams.{Diagram, top, bottom, node, same}
use Rattle.diagram.specs.Rules.{reduce, negate}
use Rattle.diagram.specs.Meet.{meet, done, ◌>>=◌}
use Rattle.diagram.specs.Fix.{literal, turn, fix, forall, foralls, emptied, empty}

pub record Fixing (n : ℕ) : Type 0 where
  -- literal v is (v, −τ, τ, τ), and is formed
  pub variable : (v : ℕ) → literal v ≡ record { it = node (pos v) bottom top top; formed = node (pos v) bottom top top ∷ [] }
  -- fixing leaves ±τ
  pub of_top : (v : ℕ) (bit : Bool) → fix n v bit top ≡ done top
  pub of_bottom : (v : ℕ) (bit : Bool) → fix n v bit bottom ≡ done bottom
  -- at |x| = v: x·(a∧c) for bit 0
  pub at_low : (x : ℤ) (a b c : Diagram)
      → fix n (unsigned_abs x) false (node x a b c) ≡ (do
        m ← meet n a c
        turn (int_lt x (pos 0)) m)
  -- at |x| = v: x·(b∧c) for bit 1
  pub at_high : (x : ℤ) (a b c : Diagram)
      → fix n (unsigned_abs x) true (node x a b c) ≡ (do
        m ← meet n b c
        turn (int_lt x (pos 0)) m)
  -- elsewhere a, b and c are fixed, and the quadruple is reduced
  pub elsewhere : (v : ℕ) (bit : Bool) (x : ℤ) (a b c : Diagram) → (unsigned_abs x ≢ v)
      → fix n v bit (node x a b c) ≡ (do
        low ← fix n v bit a
        high ← fix n v bit b
        rest ← fix n v bit c
        reduce x low high rest)
  -- forall is the conjunction of both fixes
  pub both : (v : ℕ) (d : Diagram)
      → forall n v d ≡ (do
        low ← fix n v false d
        high ← fix n v true d
        meet n low high)
  -- forall for the variables 1 to k, in rising order
  pub none : (d : Diagram) → foralls n 0 d ≡ done d
  pub more : (k : ℕ) (d : Diagram)
      → foralls n (k + 1) d ≡ (do
        e ← foralls n k d
        forall n (k + 1) e)
  -- empty negates, applies forall to the variables 1 to n, and compares with τ
  pub works : (d : Diagram)
      → emptied n d ≡ (do
        m ← negate d
        foralls n n m)
  pub answers : (d : Diagram) → empty n d ≡ same (emptied n d).it top
