-- Conjunction: the table of its cases, over any conjunction of the parts, and then by depth.
use Rattle.std.specs.Prelude.{ℕ, zero, suc, ◌+◌, Bool, true, false, [], ℤ, pos, int_lt, nat_lt, unsigned_abs}
use Rattle.diagram.specs.Diagrams.{Diagram, top, bottom, node, Made}
use Rattle.diagram.specs.Rules.{negate, reduce, after}

-- a diagram at hand; nothing is formed
abbrev pub done : Diagram → Made
done d = record { it = d; formed = [] }

-- one operation after another
abbrev pub ◌>>=◌ : Made → (Diagram → Made) → Made
◌>>=◌ m f = after m.formed (f m.it)

module _ (meet : Diagram → Diagram → Made) where
  -- ¬(p ∧ q)
  unfoldable pub nand : Diagram → Diagram → Made
  nand p q = do
    m ← meet p q
    negate m

  -- ¬(¬p ∧ t)
  unfoldable pub without : Diagram → Diagram → Made
  without p t = do
    np ← negate p
    nand np t

  -- a ∧ ¬(p ∧ q)
  unfoldable pub minus : Diagram → Diagram → Diagram → Made
  minus a p q = do
    n ← nand p q
    meet a n

  -- ¬(¬(a ∧ c) ∧ ¬(p ∧ q))
  unfoldable pub either : Diagram → Diagram → Diagram → Diagram → Made
  either a c p q = do
    u ← nand a c
    v ← nand p q
    nand u v

  -- x = x' < 0
  unfoldable pub both_negative : ℤ → (a b c a' b' c' : Diagram) → Made
  both_negative x a b c a' b' c' = do
    low ← either a c a' c'
    high ← either b c b' c'
    reduce x low high top

  -- x = x' > 0
  unfoldable pub both_positive : ℤ → (a b c a' b' c' : Diagram) → Made
  both_positive x a b c a' b' c' = do
    low ← meet a a'
    high ← meet b b'
    rest ← meet c c'
    reduce x low high rest

  -- x > 0, x' = −x
  unfoldable pub opposite : ℤ → (a b c a' b' c' : Diagram) → Made
  opposite x a b c a' b' c' = do
    low ← minus a a' c'
    high ← minus b b' c'
    reduce x low high c

  -- x < 0, |x| < |x'|
  unfoldable pub under_negative : ℤ → (a b c t : Diagram) → Made
  under_negative x a b c t = do
    low ← without a t
    high ← without b t
    rest ← without c t
    reduce x low high rest

  -- x > 0, x < |x'|
  unfoldable pub under_positive : ℤ → (a b c t : Diagram) → Made
  under_positive x a b c t = do
    rest ← meet c t
    reduce x a b rest

  -- |x| < |x'|, by whether x is negative
  abbrev pub under : Bool → ℤ → (a b c t : Diagram) → Made
  under true x a b c t = under_negative x a b c t
  under false x a b c t = under_positive x a b c t

  -- two nodes with the same absolute label, by which labels are negative; −x and x change places
  abbrev pub level_with : Bool → Bool → ℤ → (a b c : Diagram) → ℤ → (a' b' c' : Diagram) → Made
  level_with true true x a b c x' a' b' c' = both_negative x a b c a' b' c'
  level_with true false x a b c x' a' b' c' = opposite x' a' b' c' a b c
  level_with false true x a b c x' a' b' c' = opposite x a b c a' b' c'
  level_with false false x a b c x' a' b' c' = both_positive x a b c a' b' c'

  -- two nodes, by which absolute label is the smaller; where it is the second, they change places
  abbrev pub nodes_step : Bool → Bool → ℤ → (a b c : Diagram) → ℤ → (a' b' c' : Diagram) → Made
  nodes_step true v x a b c x' a' b' c' = under (int_lt x (pos 0)) x a b c (node x' a' b' c')
  nodes_step false true x a b c x' a' b' c' = under (int_lt x' (pos 0)) x' a' b' c' (node x a b c)
  nodes_step false false x a b c x' a' b' c' = level_with (int_lt x (pos 0)) (int_lt x' (pos 0)) x a b c x' a' b' c'

  -- the whole table
  abbrev pub meet_step : Diagram → Diagram → Made
  meet_step top top = done top
  meet_step top bottom = done bottom
  meet_step top (node x a b c) = done (node x a b c)
  meet_step bottom top = done bottom
  meet_step bottom bottom = done bottom
  meet_step bottom (node x a b c) = done bottom
  meet_step (node x a b c) top = done (node x a b c)
  meet_step (node x a b c) bottom = done bottom
  meet_step (node x a b c) (node x' a' b' c') =
      nodes_step (nat_lt (unsigned_abs x) (unsigned_abs x')) (nat_lt (unsigned_abs x') (unsigned_abs x)) x a b c x' a' b' c'

-- the table, at most k deep; the equations of MeetLaws say that n + 1 is always enough
unfoldable pub meet_within : ℕ → Diagram → Diagram → Made
meet_within zero s t = done top
meet_within (suc k) s t = meet_step (meet_within k) s t

-- conjunction of diagrams with labels from 1 to n
unfoldable pub meet : ℕ → Diagram → Diagram → Made
meet n s t = meet_within (n + 1) s t
