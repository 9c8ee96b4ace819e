-- The result of a reduction stands among the diagrams that it forms.
use Rattle.std.proofs.Common.{Some, None, Option, ◌≡◌, ℕ, zero, suc, Bool, true, false, cond, List, ◌++◌, ℤ, pos, neg_ℤ, refl, ◌∙◌}
use lib.Signed.{lt_z}
use Rattle.std.proofs.lemmas.Bool.{or_right, both_ways}
use Rattle.diagram.specs.Diagrams.{Diagram, top, bottom, node, has, Made}
use Rattle.diagram.specs.Rules.{Part, τ, -τ, plain, listed, signed, after, rule, apply, rewrite, negate, part, reduce}
use Rattle.diagram.specs.RuleLaws.{Negative, told}
use Rattle.diagram.specs.declared.rule.Rule.{Rule}
use Rattle.diagram.specs.declared.rule.Rule.TheVariants.{One, Two, Three, Four, Five, Six, Seven, Eight, Nine, Ten}
use Rattle.diagram.proofs.Same.{has_here, has_append}
use Rattle.diagram.proofs.Rewrites.{Says, says, neg_negative}

-- the result is formed, unless it is ±τ
abbrev Tells : Made → Type 0
Tells m = told m.it m.formed ≡ true

told_listed : (d : Diagram) → told d (listed d) ≡ true
told_listed top = refl
told_listed bottom = refl
told_listed (node x a b c) = has_here (node x a b c)

told_more : (ds es : List Diagram) (d : Diagram) → told d es ≡ true → told d (ds ++ es) ≡ true
told_more ds es top h = refl
told_more ds es bottom h = refl
told_more ds es (node x a b c) h = has_append ds es (node x a b c) ∙ or_right (has ds (node x a b c)) _ h

-- the negations of three parts, which are asked for only where the label is negative
record Asked (a b c : Part) : Type 0 where
  one : Tells a.negated
  two : Tells b.negated
  three : Tells c.negated

signed_told : (x : ℤ) (p : Part) → (Negative x → Tells p.negated) → Tells (signed x p)
signed_told x p h = go (lt_z x (pos 0)) h
  where
    go : (s : Bool) → (s ≡ true → Tells p.negated) → Tells (cond s p.negated (record { it = p.it; formed = listed p.it }))
    go true h = h refl
    go false h = told_listed p.it

rewrite_told : (k : ℕ) (x : ℤ) (a b c : Part) → (Negative x → Asked a b c) → Tells (rewrite k x a b c)
unfolding rewrite
rewrite_told zero x a b c h = told_listed (node x a.it b.it c.it)
rewrite_told (suc k) x a b c h = go (rule x a.it b.it c.it) (says x a.it b.it c.it) (rewrite_told k)
  where
    IH : Type 0
    IH = (x : ℤ) (a b c : Part) → (Negative x → Asked a b c) → Tells (rewrite k x a b c)

    turn : (d e : Part) → Negative x → IH → (ds : List Diagram) → Tells (after ds (rewrite k (neg_ℤ x) d e τ))
    turn d e n ih ds = told_more ds _ (rewrite k (neg_ℤ x) d e τ).it (ih (neg_ℤ x) d e τ (λ m. absurd (both_ways (lt_z (neg_ℤ x) (pos 0)) (neg_negative x n) m)))

    go : (r : Option Rule) → Says x a.it b.it c.it r → IH → Tells (apply r (rewrite k) x a b c)
    go (Some One) s ih = signed_told x -τ (λ n. refl)
    go (Some Two) s ih = signed_told x -τ (λ n. refl)
    go (Some Three) s ih = signed_told x c (λ n. (h n).three)
    go (Some Four) s ih = signed_told x a (λ n. (h n).one)
    go (Some Five) s ih = ih x τ -τ a (λ n. record { one = refl; two = refl; three = (h n).one })
    go (Some Six) s ih = ih x -τ τ b (λ n. record { one = refl; two = refl; three = (h n).two })
    go (Some Seven) s ih = ih x a τ c (λ n. record { one = (h n).one; two = refl; three = (h n).three })
    go (Some Eight) s ih = ih x τ b c (λ n. record { one = refl; two = (h n).two; three = (h n).three })
    go (Some Nine) s ih = turn -τ (plain b.negated.it) s.0 ih b.negated.formed
    go (Some Ten) s ih = turn (plain a.negated.it) -τ s.0 ih a.negated.formed
    go None s ih = told_listed (node x a.it b.it c.it)

pub negate_told : (d : Diagram) → told (negate d).it (negate d).formed ≡ true
unfolding negate
negate_told top = refl
negate_told bottom = refl
negate_told (node x a b c) = rewrite_told 6 (neg_ℤ x) (part a) (part b) (part c) (λ n. record { one = negate_told a; two = negate_told b; three = negate_told c })

pub reduce_told : (x : ℤ) (a b c : Diagram) → told (reduce x a b c).it (reduce x a b c).formed ≡ true
reduce_told x a b c = rewrite_told 6 x (part a) (part b) (part c) (λ n. record { one = negate_told a; two = negate_told b; three = negate_told c })
