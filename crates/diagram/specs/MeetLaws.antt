-- The table of conjunction as people write it: each case is an equation of `meet n` for ordered diagrams,
-- of its result and of what it forms. `either a c p q` is ¬(¬(a∧c)∧¬(p∧q)), `minus a p q` is a∧¬(p∧q),
-- `without p t` is ¬(¬p∧t).
use Rattle.std.specs.Prelude.{◌≡◌, ℕ, ◌<◌, true, false, cond, not, ◌&&◌, ℤ, pos, neg_ℤ, Some, None, Option, ◌≢◌, int_lt, nat_lt, unsigned_abs}
use Rattle.diagram.specs.Diagrams.{Diagram, top, bottom, node, ordered, eqℤ, Made}
use Rattle.diagram.specs.Rules.{reduce}
use Rattle.diagram.specs.Meet.{meet, both_positive, both_negative, opposite, under_positive, under_negative, either, minus, without, done, ◌>>=◌}
use Rattle.diagram.specs.RuleLaws.{Negative}

-- the order holds, with labels from 1 to n
abbrev pub Ordered : ℕ → Diagram → Type 0
Ordered n d = ordered n d ≡ true

-- x > 0, for a label of an ordered diagram, which is not 0
abbrev pub Positive : ℤ → Type 0
Positive x = int_lt x (pos 0) ≡ false

-- the table in its order: what the first case that applies to s and t gives, if one does
abbrev pub table : ℕ → Diagram → Diagram → Option Made
table n s top = Some (done s)
table n s bottom = Some (done bottom)
table n top (node x' a' b' c') = None
table n bottom (node x' a' b' c') = None
table n (node x a b c) (node x' a' b' c') =
    cond (eqℤ x x' && not (int_lt x (pos 0))) (Some (both_positive (meet n) x a b c a' b' c'))
    (cond (eqℤ x x' && int_lt x (pos 0)) (Some (both_negative (meet n) x a b c a' b' c'))
    (cond (not (int_lt x (pos 0)) && eqℤ x' (neg_ℤ x)) (Some (opposite (meet n) x a b c a' b' c'))
    (cond (not (int_lt x (pos 0)) && nat_lt (unsigned_abs x) (unsigned_abs x')) (Some (under_positive (meet n) x a b c (node x' a' b' c')))
    (cond (int_lt x (pos 0) && nat_lt (unsigned_abs x) (unsigned_abs x')) (Some (under_negative (meet n) x a b c (node x' a' b' c')))
    None))))

-- conjunction goes by the table; and each case as a formula
pub record Conjunction (n : ℕ) : Type 0 where
  -- t is τ: s
  pub with_top : (s : Diagram) → Ordered n s → meet n s top ≡ done s
  -- t is −τ: −τ
  pub with_bottom : (s : Diagram) → Ordered n s → meet n s bottom ≡ done bottom
  -- x = x' > 0: (x, a∧a', b∧b', c∧c')
  pub both_positive : (x : ℤ) (a b c a' b' c' : Diagram) → Ordered n (node x a b c) → Ordered n (node x a' b' c') → Positive x
      → meet n (node x a b c) (node x a' b' c') ≡ (do
        low ← meet n a a'
        high ← meet n b b'
        rest ← meet n c c'
        reduce x low high rest)
  -- x = x' < 0: (x, ¬(¬(a∧c)∧¬(a'∧c')), ¬(¬(b∧c)∧¬(b'∧c')), τ)
  pub both_negative : (x : ℤ) (a b c a' b' c' : Diagram) → Ordered n (node x a b c) → Ordered n (node x a' b' c') → Negative x
      → meet n (node x a b c) (node x a' b' c') ≡ (do
        low ← either (meet n) a c a' c'
        high ← either (meet n) b c b' c'
        reduce x low high top)
  -- x > 0, x' = −x: (x, a∧¬(a'∧c'), b∧¬(b'∧c'), c)
  pub opposite : (x : ℤ) (a b c a' b' c' : Diagram) → Ordered n (node x a b c) → Ordered n (node (neg_ℤ x) a' b' c') → Positive x
      → meet n (node x a b c) (node (neg_ℤ x) a' b' c') ≡ (do
        low ← minus (meet n) a a' c'
        high ← minus (meet n) b b' c'
        reduce x low high c)
  -- x > 0, x < |x'|: (x, a, b, c∧t)
  pub under_positive : (x : ℤ) (a b c : Diagram) (x' : ℤ) (a' b' c' : Diagram)
      → Ordered n (node x a b c) → Ordered n (node x' a' b' c') → Positive x → unsigned_abs x < unsigned_abs x'
      → meet n (node x a b c) (node x' a' b' c') ≡ (do
        rest ← meet n c (node x' a' b' c')
        reduce x a b rest)
  -- x < 0, |x| < |x'|: (x, ¬(¬a∧t), ¬(¬b∧t), ¬(¬c∧t))
  pub under_negative : (x : ℤ) (a b c : Diagram) (x' : ℤ) (a' b' c' : Diagram)
      → Ordered n (node x a b c) → Ordered n (node x' a' b' c') → Negative x → unsigned_abs x < unsigned_abs x'
      → meet n (node x a b c) (node x' a' b' c') ≡ (do
        low ← without (meet n) a (node x' a' b' c')
        high ← without (meet n) b (node x' a' b' c')
        rest ← without (meet n) c (node x' a' b' c')
        reduce x low high rest)
  -- conjunction is what the first case that applies gives
  pub applies : (s t : Diagram) → Ordered n s → Ordered n t → (m : Made) → table n s t ≡ Some m → meet n s t ≡ m
  -- if none applies, s and t change places
  pub places : (s t : Diagram) → Ordered n s → Ordered n t → table n s t ≡ None → meet n s t ≡ meet n t s
  -- and then one does apply
  pub once : (s t : Diagram) → Ordered n s → Ordered n t → table n s t ≡ None → table n t s ≢ None
