use Rattle.std.proofs.Common.{Some, None, Option, ◌≡◌, ℕ, zero, suc, ◌<◌, Bool, true, false, cond, not, ℤ, pos, negsuc, neg_ℤ, nat_abs, sym, refl, ◌∙◌, zero-le, not-suc-le-zero}
use lib.Signed.{lt_z}
use Rattle.std.proofs.lemmas.Bool.{both_ways, le-ltb}
use Rattle.diagram.specs.Diagrams.{Diagram, top, bottom, node, ordered, same}
use Rattle.diagram.specs.Rules.{Part, τ, -τ, plain, listed, signed, rule, apply, rewrite, negate, part, reduce}
use Rattle.diagram.specs.Values.{turned, mean, Assignment, value}
use Rattle.diagram.specs.declared.rule.Rule.{Rule}
use Rattle.diagram.specs.declared.rule.Rule.TheVariants.{One, Two, Three, Four, Five, Six, Seven, Eight, Nine, Ten}
use Rattle.diagram.proofs.Same.{same_true}
use Rattle.diagram.proofs.Rewrites.{neg_negative, Says, says, rising, nat_abs_neg}
use Rattle.diagram.proofs.Bools.{t_one, t_two, t_three, t_four, t_five, t_six, t_seven, t_eight, t_nine, t_ten, turned_neg}

-- a part whose negation's value is the complement of its own
abbrev pub Honest : Assignment → Part → Type 0
Honest g p = value p.negated.it g ≡ not (value p.it g)

pub record ThreeHonest (g : Assignment) (a b c : Part) : Type 0 where
  pub one : Honest g a
  pub two : Honest g b
  pub three : Honest g c

-- asked for only where the label is negative
abbrev pub Asked : Assignment → ℤ → Part → Part → Part → Type 0
Asked g x a b c = lt_z x (pos 0) ≡ true → ThreeHonest g a b c

value_top : (g : Assignment) → value top g ≡ true
unfolding value
value_top g = refl

value_bottom : (g : Assignment) → value bottom g ≡ false
unfolding value
value_bottom g = refl

pub value_node : (g : Assignment) (x : ℤ) (a b c : Diagram) → value (node x a b c) g ≡ mean (lt_z x (pos 0)) (g (nat_abs x)) (value a g) (value b g) (value c g)
unfolding value
value_node g x a b c = refl

honest-τ : (g : Assignment) → Honest g τ
unfolding value
honest-τ g = refl

honest--τ : (g : Assignment) → Honest g -τ
unfolding value
honest--τ g = refl

pub neg_sign : (x : ℤ) → 0 < nat_abs x → lt_z (neg_ℤ x) (pos 0) ≡ not (lt_z x (pos 0))
neg_sign (pos zero) h = absurd (not-suc-le-zero h)
neg_sign (pos (suc n)) h = rw (le-ltb (suc n) 0 zero-le)
neg_sign (negsuc n) h = le-ltb (suc n) 0 zero-le

value_signed : (g : Assignment) (x : ℤ) (p : Part) → (lt_z x (pos 0) ≡ true → Honest g p) → value (signed x p).it g ≡ turned (lt_z x (pos 0)) (value p.it g)
value_signed g x p h = go (lt_z x (pos 0)) h
  where
    go : (s : Bool) → (s ≡ true → Honest g p) → value (cond s p.negated (record { it = p.it; formed = listed p.it })).it g ≡ turned s (value p.it g)
    go true h = h refl
    go false h = refl

-- rewriting keeps the value of the quadruple
pub value_rewrite : (k : ℕ) (g : Assignment) (x : ℤ) (a b c : Part) → Asked g x a b c
    → value (rewrite k x a b c).it g ≡ mean (lt_z x (pos 0)) (g (nat_abs x)) (value a.it g) (value b.it g) (value c.it g)
unfolding rewrite
value_rewrite zero g x a b c h = value_node g x a.it b.it c.it
value_rewrite (suc k) g x a b c h = go (rule x a.it b.it c.it) (says x a.it b.it c.it) (value_rewrite k g)
  where
    IH : Type 0
    IH = (x : ℤ) (a b c : Part) → Asked g x a b c → value (rewrite k x a b c).it g ≡ mean (lt_z x (pos 0)) (g (nat_abs x)) (value a.it g) (value b.it g) (value c.it g)

    is_top : (p : Part) → same p.it top ≡ true → value p.it g ≡ true
    is_top p e = rw (same_true p.it top e) (value_top g)

    is_bottom : (p : Part) → same p.it bottom ≡ true → value p.it g ≡ false
    is_bottom p e = rw (same_true p.it bottom e) (value_bottom g)

    alike : (p q : Part) → same p.it q.it ≡ true → value p.it g ≡ value q.it g
    alike p q e = rw (same_true p.it q.it e)

    va : Bool
    va = value a.it g

    vb : Bool
    vb = value b.it g

    vc : Bool
    vc = value c.it g

    s : Bool
    s = lt_z x (pos 0)

    v : Bool
    v = g (nat_abs x)

    go : (r : Option Rule) → Says x a.it b.it c.it r → IH → value (apply r (rewrite k) x a b c).it g ≡ mean s v va vb vc
    go (Some One) y ih = rw (is_bottom a y.0, is_bottom b y.1) (value_signed g x -τ (λ _. honest--τ g) ∙ rw (value_bottom g) (t_one s v vc))
    go (Some Two) y ih = rw (is_bottom c y) (value_signed g x -τ (λ _. honest--τ g) ∙ rw (value_bottom g) (t_two s v va vb))
    go (Some Three) y ih = rw (is_top a y.0, is_top b y.1) (value_signed g x c (λ e. (h e).three) ∙ t_three s v vc)
    go (Some Four) y ih = rw (is_top c y.1, ← alike a b y.0) (value_signed g x a (λ e. (h e).one) ∙ t_four s v va)
    go (Some Five) y ih = rw (is_bottom b y.0, is_top c y.1.0)
        (ih x τ -τ a (λ e. record { one = honest-τ g; two = honest--τ g; three = (h e).one }) ∙ rw (value_top g, value_bottom g) (t_five s v va))
    go (Some Six) y ih = rw (is_bottom a y.0, is_top c y.1.0)
        (ih x -τ τ b (λ e. record { one = honest--τ g; two = honest-τ g; three = (h e).two }) ∙ rw (value_top g, value_bottom g) (t_six s v vb))
    go (Some Seven) y ih = rw (alike b c y.0) (ih x a τ c (λ e. record { one = (h e).one; two = honest-τ g; three = (h e).three }) ∙ rw (value_top g) (t_seven s v va vc))
    go (Some Eight) y ih = rw (alike a c y.0) (ih x τ b c (λ e. record { one = honest-τ g; two = (h e).two; three = (h e).three }) ∙ rw (value_top g) (t_eight s v vb vc))
    go (Some Nine) y ih = rw (is_top a y.1.0, is_top c y.1.1, y.0)
        (ih (neg_ℤ x) -τ (plain b.negated.it) τ (λ e. absurd (both_ways _ (neg_negative x y.0) e))
        ∙ rw (value_top g, value_bottom g, neg_negative x y.0, nat_abs_neg x, (h y.0).two) (t_nine v vb))
    go (Some Ten) y ih = rw (is_top b y.1.0, is_top c y.1.1, y.0)
        (ih (neg_ℤ x) (plain a.negated.it) -τ τ (λ e. absurd (both_ways _ (neg_negative x y.0) e))
        ∙ rw (value_top g, value_bottom g, neg_negative x y.0, nat_abs_neg x, (h y.0).one) (t_ten v va))
    go None y ih = value_node g x a.it b.it c.it

-- negation is the complement
pub value_negate : (n : ℕ) (g : Assignment) (d : Diagram) → ordered n d ≡ true → value (negate d).it g ≡ not (value d g)
unfolding negate value
value_negate n g top o = refl
value_negate n g bottom o = refl
value_negate n g (node x a b c) o =
    let r = rising n x a b c o in
    value_rewrite 6 g (neg_ℤ x) (part a) (part b) (part c) (λ _. record { one = value_negate n g a r.a_ordered; two = value_negate n g b r.b_ordered; three = value_negate n g c r.c_ordered })
    ∙ rw (nat_abs_neg x, neg_sign x r.first) (turned_neg (lt_z x (pos 0)) _)

-- reducing keeps the value
pub value_reduce : (n : ℕ) (g : Assignment) (x : ℤ) (a b c : Diagram) → ordered n a ≡ true → ordered n b ≡ true → ordered n c ≡ true
    → value (reduce x a b c).it g ≡ value (node x a b c) g
value_reduce n g x a b c oa ob oc =
    value_rewrite 6 g x (part a) (part b) (part c) (λ _. record { one = value_negate n g a oa; two = value_negate n g b ob; three = value_negate n g c oc })
    ∙ sym (value_node g x a b c)
