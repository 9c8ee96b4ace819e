-- The rewrite rules and negation as people write them: each is an equation of reduction,
-- of its result and of what it forms.
use Rattle.std.specs.Prelude.{◌≡◌, Bool, true, List, ℤ, pos, neg_ℤ, ◌≢◌, int_lt}
use Rattle.diagram.specs.Diagrams.{Diagram, top, bottom, node, has, Made}
use Rattle.diagram.specs.Rules.{rule, apply, signed, part, stored, reduce, negate}
use Rattle.diagram.specs.Meet.{done, ◌>>=◌}

-- x < 0
abbrev pub Negative : ℤ → Type 0
Negative x = int_lt x (pos 0) ≡ true

-- x·t as the result of a reduction: t, or its negation where x is negative; it is formed unless it is ±τ
abbrev pub times : ℤ → Diagram → Made
times x t = signed x (part t)

-- the result stands among the diagrams formed, unless it is ±τ
abbrev pub told : Diagram → List Diagram → Bool
told top ds = true
told bottom ds = true
told (node x a b c) ds = has ds (node x a b c)

-- no rule changes the quadruple (x, a, b, c)
pub record Settled (x : ℤ) (a b c : Diagram) : Type 0 where
  pub not_one : a ≡ bottom → b ≢ bottom
  pub not_two : c ≡ bottom → ⊥
  pub not_three : a ≡ top → b ≢ top
  pub not_four : a ≡ b → c ≢ top
  pub not_five : b ≡ bottom → c ≡ top → a ≡ top
  pub not_six : a ≡ bottom → c ≡ top → b ≡ top
  pub not_seven : b ≡ c → b ≡ top
  pub not_eight : a ≡ c → a ≡ top
  pub not_nine : Negative x → a ≡ top → c ≢ top
  pub not_ten : Negative x → b ≡ top → c ≢ top

-- Reducing goes by the first rule that changes the quadruple, and on by reducing. Besides, each rule holds as an equation
-- wherever it fits, whichever rule comes first.
pub record Rewriting : Type 0 where
  -- the first rule that changes the quadruple is applied; where it leads to another quadruple, that one is reduced
  pub first : (x : ℤ) (a b c : Diagram)
      → reduce x a b c ≡ apply (rule x a b c) (λ y d e f. reduce y d.it e.it f.it) x (part a) (part b) (part c)
  -- 1. (x, −τ, −τ, c) → x·(−τ)
  pub one : (x : ℤ) (c : Diagram) → reduce x bottom bottom c ≡ times x bottom
  -- 2. (x, a, b, −τ) → x·(−τ)
  pub two : (x : ℤ) (a b : Diagram) → reduce x a b bottom ≡ times x bottom
  -- 3. (x, τ, τ, c) → x·c
  pub three : (x : ℤ) (c : Diagram) → reduce x top top c ≡ times x c
  -- 4. (x, a, a, τ) → x·a
  pub four : (x : ℤ) (a : Diagram) → reduce x a a top ≡ times x a
  -- 5. (x, a, −τ, τ) → (x, τ, −τ, a)
  pub five : (x : ℤ) (a : Diagram) → reduce x a bottom top ≡ reduce x top bottom a
  -- 6. (x, −τ, b, τ) → (x, −τ, τ, b)
  pub six : (x : ℤ) (b : Diagram) → reduce x bottom b top ≡ reduce x bottom top b
  -- 7. (x, a, c, c) → (x, a, τ, c)
  pub seven : (x : ℤ) (a c : Diagram) → reduce x a c c ≡ reduce x a top c
  -- 8. (x, c, b, c) → (x, τ, b, c)
  pub eight : (x : ℤ) (b c : Diagram) → reduce x c b c ≡ reduce x top b c
  -- 9. (−y, τ, b, τ) → (y, −τ, ¬b, τ)
  pub nine : (x : ℤ) (b : Diagram) → Negative x
      → reduce x top b top ≡ (do
        nb ← negate b
        reduce (neg_ℤ x) bottom nb top)
  -- 10. (−y, a, τ, τ) → (y, ¬a, −τ, τ)
  pub ten : (x : ℤ) (a : Diagram) → Negative x
      → reduce x a top top ≡ (do
        na ← negate a
        reduce (neg_ℤ x) na bottom top)
  -- no rule changes it: it is the result, and is formed
  pub stop : (x : ℤ) (a b c : Diagram) → Settled x a b c → reduce x a b c ≡ stored x a b c
  -- every result of a reduction is formed, unless it is ±τ
  pub formed : (x : ℤ) (a b c : Diagram) → told (reduce x a b c).it (reduce x a b c).formed ≡ true

-- negation exchanges τ and −τ, and reduces a quadruple with the other sign
pub record Negating : Type 0 where
  pub of_top : negate top ≡ done bottom
  pub of_bottom : negate bottom ≡ done top
  pub of_node : (x : ℤ) (a b c : Diagram) → negate (node x a b c) ≡ reduce (neg_ℤ x) a b c
