use Rattle.std.proofs.Common.{Some, None, Option, ◌≡◌, ℕ, zero, suc, ◌+◌, ◌<◌, ◌≤◌, Bool, true, false, cond, not, ◌&&◌, ltb, leb, ℤ, pos, negsuc, neg_ℤ, nat_abs, refl, ap, ◌∙◌, subst, zero-le, not-suc-le-zero, arith}
use lib.Signed.{lt_z}
use Rattle.std.proofs.lemmas.Bool.{and_parts, and_from, not-true, cond_both, both_ways, ltb-true, leb-true, lt-ltb, le-ltb, le-leb}
use Rattle.diagram.specs.Diagrams.{Diagram, top, bottom, node, level, ordered, same}
use Rattle.diagram.specs.Rules.{Part, τ, -τ, plain, listed, signed, after, pick, rule, apply, rewrite, negate, part, reduce}
use Rattle.diagram.specs.declared.rule.Rule.{Rule}
use Rattle.diagram.specs.declared.rule.Rule.TheVariants.{One, Two, Three, Four, Five, Six, Seven, Eight, Nine, Ten}
use Rattle.diagram.proofs.Same.{same_true, same_refl}

-- what a rule's being the first to change a quadruple tells of it
abbrev pub Told : (aT aB bT bB cT cB ab bc ac negative : Bool) → Option Rule → Type 0
Told aT aB bT bB cT cB ab bc ac negative (Some One) = (aB ≡ true) × (bB ≡ true)
Told aT aB bT bB cT cB ab bc ac negative (Some Two) = cB ≡ true
Told aT aB bT bB cT cB ab bc ac negative (Some Three) = (aT ≡ true) × (bT ≡ true)
Told aT aB bT bB cT cB ab bc ac negative (Some Four) = (ab ≡ true) × (cT ≡ true)
Told aT aB bT bB cT cB ab bc ac negative (Some Five) = (bB ≡ true) × ((cT ≡ true) × (aT ≡ false))
Told aT aB bT bB cT cB ab bc ac negative (Some Six) = (aB ≡ true) × ((cT ≡ true) × (bT ≡ false))
Told aT aB bT bB cT cB ab bc ac negative (Some Seven) = (bc ≡ true) × (bT ≡ false)
Told aT aB bT bB cT cB ab bc ac negative (Some Eight) = (ac ≡ true) × (aT ≡ false)
Told aT aB bT bB cT cB ab bc ac negative (Some Nine) = (negative ≡ true) × ((aT ≡ true) × (cT ≡ true))
Told aT aB bT bB cT cB ab bc ac negative (Some Ten) = (negative ≡ true) × ((bT ≡ true) × (cT ≡ true))
Told aT aB bT bB cT cB ab bc ac negative None = Unit {0}

pub told : (aT aB bT bB cT cB ab bc ac negative : Bool) → Told aT aB bT bB cT cB ab bc ac negative (pick aT aB bT bB cT cB ab bc ac negative)
told aT aB bT bB cT cB ab bc ac negative =
    cond_both (aB && bB) (Some One) _ P (λ e. and_parts aB bB e) λ _.
    cond_both cB (Some Two) _ P (λ e. e) λ _.
    cond_both (aT && bT) (Some Three) _ P (λ e. and_parts aT bT e) λ _.
    cond_both (ab && cT) (Some Four) _ P (λ e. and_parts ab cT e) λ _.
    cond_both (bB && (cT && not aT)) (Some Five) _ P (λ e. let p = and_parts bB _ e in let q = and_parts cT _ p.1 in (p.0, (q.0, not-true aT q.1))) λ _.
    cond_both (aB && (cT && not bT)) (Some Six) _ P (λ e. let p = and_parts aB _ e in let q = and_parts cT _ p.1 in (p.0, (q.0, not-true bT q.1))) λ _.
    cond_both (bc && not bT) (Some Seven) _ P (λ e. let p = and_parts bc _ e in (p.0, not-true bT p.1)) λ _.
    cond_both (ac && not aT) (Some Eight) _ P (λ e. let p = and_parts ac _ e in (p.0, not-true aT p.1)) λ _.
    cond_both (negative && (aT && cT)) (Some Nine) _ P (λ e. let p = and_parts negative _ e in (p.0, and_parts aT cT p.1)) λ _.
    cond_both (negative && (bT && cT)) (Some Ten) None P (λ e. let p = and_parts negative _ e in (p.0, and_parts bT cT p.1)) λ _.
    tt
  where
    P : Option Rule → Type 0
    P = Told aT aB bT bB cT cB ab bc ac negative

abbrev pub Says : ℤ → Diagram → Diagram → Diagram → Option Rule → Type 0
Says x a b c r =
    Told (same a top) (same a bottom) (same b top) (same b bottom) (same c top) (same c bottom) (same a b) (same b c) (same a c) (lt_z x (pos 0)) r

pub says : (x : ℤ) (a b c : Diagram) → Says x a b c (rule x a b c)
says x a b c = told (same a top) (same a bottom) (same b top) (same b bottom) (same c top) (same c bottom) (same a b) (same b c) (same a c) (lt_z x (pos 0))

-- it falls with each rewriting
abbrev pub rank : ℤ → Diagram → Diagram → ℕ
rank x a b = cond (lt_z x (pos 0)) 3 0 + (cond (same a top) 0 1 + cond (same b top) 0 1)

bottom_top : same bottom top ≡ false
unfolding same
bottom_top = refl

top_top : same top top ≡ true
top_top = same_refl top

not_top : (d : Diagram) → same d bottom ≡ true → same d top ≡ false
not_top d e = rw (same_true d bottom e) bottom_top

cond_1 : (b : Bool) → cond b 0 1 ≤ 1
cond_1 true = omega arith
cond_1 false = omega arith

pub neg_negative : (x : ℤ) → lt_z x (pos 0) ≡ true → lt_z (neg_ℤ x) (pos 0) ≡ false
neg_negative (pos zero) e = refl
neg_negative (pos (suc n)) e = absurd (both_ways _ (le-ltb (suc n) 0 zero-le) e)
neg_negative (negsuc n) e = le-ltb (suc n) 0 zero-le

pub falls_5 : (x : ℤ) (a b c : Diagram) → Says x a b c (Some Five) → rank x top bottom < rank x a b
falls_5 x a b c s = rw (top_top, bottom_top, s.1.1, not_top b s.0) (omega arith)

pub falls_6 : (x : ℤ) (a b c : Diagram) → Says x a b c (Some Six) → rank x bottom top < rank x a b
falls_6 x a b c s = rw (top_top, bottom_top, s.1.1, not_top a s.0) (omega arith)

pub falls_7 : (x : ℤ) (a b c : Diagram) → Says x a b c (Some Seven) → rank x a top < rank x a b
falls_7 x a b c s = rw (top_top, s.1) (omega arith)

pub falls_8 : (x : ℤ) (a b c : Diagram) → Says x a b c (Some Eight) → rank x top b < rank x a b
falls_8 x a b c s = rw (top_top, s.1) (omega arith)

pub falls_9 : (x : ℤ) (a b c d e : Diagram) → Says x a b c (Some Nine) → rank (neg_ℤ x) d e < rank x a b
falls_9 x a b c d e s = rw (s.0, neg_negative x s.0) (omega (arith, cond_1 (same d top), cond_1 (same e top)))

pub falls_10 : (x : ℤ) (a b c d e : Diagram) → Says x a b c (Some Ten) → rank (neg_ℤ x) d e < rank x a b
falls_10 x a b c d e s = rw (s.0, neg_negative x s.0) (omega (arith, cond_1 (same d top), cond_1 (same e top)))

-- more rewritings than the rank change nothing
pub enough : (k : ℕ) (x : ℤ) (a b c : Part) → rank x a.it b.it < k → rewrite k x a b c ≡ rewrite (suc k) x a b c
unfolding rewrite
enough zero x a b c h = absurd (not-suc-le-zero h)
enough (suc k) x a b c h = go (rule x a.it b.it c.it) (says x a.it b.it c.it) (enough k)
  where
    go : (r : Option Rule) → Says x a.it b.it c.it r
        → ((x : ℤ) (a b c : Part) → rank x a.it b.it < k → rewrite k x a b c ≡ rewrite (suc k) x a b c)
        → apply r (rewrite k) x a b c ≡ apply r (rewrite (suc k)) x a b c
    go (Some One) s ih = refl
    go (Some Two) s ih = refl
    go (Some Three) s ih = refl
    go (Some Four) s ih = refl
    go (Some Five) s ih = ih x τ -τ a (omega (arith, falls_5 x a.it b.it c.it s))
    go (Some Six) s ih = ih x -τ τ b (omega (arith, falls_6 x a.it b.it c.it s))
    go (Some Seven) s ih = ih x a τ c (omega (arith, falls_7 x a.it b.it c.it s))
    go (Some Eight) s ih = ih x τ b c (omega (arith, falls_8 x a.it b.it c.it s))
    go (Some Nine) s ih = ap (after b.negated.formed) (ih (neg_ℤ x) -τ (plain b.negated.it) τ (omega (arith, falls_9 x a.it b.it c.it bottom b.negated.it s)))
    go (Some Ten) s ih = ap (after a.negated.formed) (ih (neg_ℤ x) (plain a.negated.it) -τ τ (omega (arith, falls_10 x a.it b.it c.it a.negated.it bottom s)))
    go None s ih = refl

-- at a positive label no negation is asked for
pub positive : (k : ℕ) (x : ℤ) (a b c a' b' c' : Part) → lt_z x (pos 0) ≡ false → a.it ≡ a'.it → b.it ≡ b'.it → c.it ≡ c'.it
    → rewrite k x a b c ≡ rewrite k x a' b' c'
unfolding rewrite
positive zero x a b c a' b' c' p ea eb ec = rw (ea, eb, ec)
positive (suc k) x a b c a' b' c' p ea eb ec =
    let er : rule x a'.it b'.it c'.it ≡ rule x a.it b.it c.it = rw (ea, eb, ec) in
    subst (λ (r : Option Rule). apply r (rewrite k) x a b c ≡ apply (rule x a'.it b'.it c'.it) (rewrite k) x a' b' c') er
    (go (rule x a'.it b'.it c'.it) (says x a'.it b'.it c'.it) (positive k))
  where
    sign : (t u : Part) → t.it ≡ u.it → signed x t ≡ signed x u
    sign t u e = rw (p, e)

    go : (r : Option Rule) → Says x a'.it b'.it c'.it r
        → ((x : ℤ) (a b c a' b' c' : Part) → lt_z x (pos 0) ≡ false → a.it ≡ a'.it → b.it ≡ b'.it → c.it ≡ c'.it → rewrite k x a b c ≡ rewrite k x a' b' c')
        → apply r (rewrite k) x a b c ≡ apply r (rewrite k) x a' b' c'
    go (Some One) s ih = refl
    go (Some Two) s ih = refl
    go (Some Three) s ih = sign c c' ec
    go (Some Four) s ih = sign a a' ea
    go (Some Five) s ih = ih x τ -τ a τ -τ a' p refl refl ea
    go (Some Six) s ih = ih x -τ τ b -τ τ b' p refl refl eb
    go (Some Seven) s ih = ih x a τ c a' τ c' p ea refl ec
    go (Some Eight) s ih = ih x τ b c τ b' c' p refl eb ec
    go (Some Nine) s ih = absurd (both_ways _ p s.0)
    go (Some Ten) s ih = absurd (both_ways _ p s.0)
    go None s ih = rw (ea, eb, ec)

-- a part whose label, and whose negation's, lies past x
pub record High (n : ℕ) (x : ℤ) (p : Part) : Type 0 where
  pub plainly : nat_abs x < level n p.it
  pub turned : nat_abs x < level n p.negated.it

pub nat_abs_neg : (x : ℤ) → nat_abs (neg_ℤ x) ≡ nat_abs x
nat_abs_neg (pos zero) = refl
nat_abs_neg (pos (suc n)) = refl
nat_abs_neg (negsuc n) = refl

signed_level : (n : ℕ) (x : ℤ) (p : Part) → High n x p → nat_abs x ≤ level n (signed x p).it
signed_level n x p h = go (lt_z x (pos 0))
  where
    go : (b : Bool) → nat_abs x ≤ level n (cond b p.negated (record { it = p.it; formed = listed p.it })).it
    go true = omega (arith, h.turned)
    go false = omega (arith, h.plainly)

high_leaf : (n : ℕ) (x : ℤ) → nat_abs x ≤ n → High n x τ × High n x -τ
high_leaf n x l = (record { plainly = omega arith; turned = omega arith }, record { plainly = omega arith; turned = omega arith })

high_neg : (n : ℕ) (x : ℤ) (p : Part) → High n x p → High n (neg_ℤ x) p
high_neg n x p h = record { plainly = rw nat_abs_neg h.plainly; turned = rw nat_abs_neg h.turned }

pub rewrite_level : (n k : ℕ) (x : ℤ) (a b c : Part) → nat_abs x ≤ n → High n x a → High n x b → High n x c → nat_abs x ≤ level n (rewrite k x a b c).it
unfolding rewrite
rewrite_level n zero x a b c l ha hb hc = omega arith
rewrite_level n (suc k) x a b c l ha hb hc = go (rule x a.it b.it c.it) (rewrite_level n k)
  where
    t : High n x τ
    t = (high_leaf n x l).0

    f : High n x -τ
    f = (high_leaf n x l).1

    turn : (d e : Part) → ((x : ℤ) (a b c : Part) → nat_abs x ≤ n → High n x a → High n x b → High n x c → nat_abs x ≤ level n (rewrite k x a b c).it)
        → High n x d → High n x e → nat_abs x ≤ level n (rewrite k (neg_ℤ x) d e τ).it
    turn d e ih hd he = rw nat_abs_neg at (ih (neg_ℤ x) d e τ (rw nat_abs_neg l) (high_neg n x d hd) (high_neg n x e he) (high_neg n x τ t))

    go : (r : Option Rule) → ((x : ℤ) (a b c : Part) → nat_abs x ≤ n → High n x a → High n x b → High n x c → nat_abs x ≤ level n (rewrite k x a b c).it)
        → nat_abs x ≤ level n (apply r (rewrite k) x a b c).it
    go (Some One) ih = signed_level n x -τ f
    go (Some Two) ih = signed_level n x -τ f
    go (Some Three) ih = signed_level n x c hc
    go (Some Four) ih = signed_level n x a ha
    go (Some Five) ih = ih x τ -τ a l t f ha
    go (Some Six) ih = ih x -τ τ b l f t hb
    go (Some Seven) ih = ih x a τ c l ha t hc
    go (Some Eight) ih = ih x τ b c l t hb hc
    go (Some Nine) ih = turn -τ (plain b.negated.it) ih f (record { plainly = hb.turned; turned = hb.turned })
    go (Some Ten) ih = turn (plain a.negated.it) -τ ih (record { plainly = ha.turned; turned = ha.turned }) f
    go None ih = omega arith

-- what order says of a quadruple
pub record Rising (n : ℕ) (x : ℤ) (a b c : Diagram) : Type 0 where
  pub first : 0 < nat_abs x
  pub last : nat_abs x ≤ n
  pub low : nat_abs x < level n a
  pub high : nat_abs x < level n b
  pub rest : nat_abs x < level n c
  pub a_ordered : ordered n a ≡ true
  pub b_ordered : ordered n b ≡ true
  pub c_ordered : ordered n c ≡ true

pub rising : (n : ℕ) (x : ℤ) (a b c : Diagram) → ordered n (node x a b c) ≡ true → Rising n x a b c
unfolding ordered
rising n x a b c o =
    let p1 = and_parts (ltb 0 (nat_abs x)) _ o in
    let p2 = and_parts (leb (nat_abs x) n) _ p1.1 in
    let p3 = and_parts (ltb (nat_abs x) (level n a)) _ p2.1 in
    let p4 = and_parts (ltb (nat_abs x) (level n b)) _ p3.1 in
    let p5 = and_parts (ltb (nat_abs x) (level n c)) _ p4.1 in
    let p6 = and_parts (ordered n a) _ p5.1 in
    let p7 = and_parts (ordered n b) _ p6.1 in
    record {
      first = ltb-true 0 (nat_abs x) p1.0;
      last = leb-true (nat_abs x) n p2.0;
      low = ltb-true (nat_abs x) (level n a) p3.0;
      high = ltb-true (nat_abs x) (level n b) p4.0;
      rest = ltb-true (nat_abs x) (level n c) p5.0;
      a_ordered = p6.0;
      b_ordered = p7.0;
      c_ordered = p7.1;
    }

pub order : (n : ℕ) (x : ℤ) (a b c : Diagram) → Rising n x a b c → ordered n (node x a b c) ≡ true
unfolding ordered
order n x a b c r =
    and_from _ _ (lt-ltb 0 (nat_abs x) r.first) (and_from _ _ (le-leb (nat_abs x) n r.last)
    (and_from _ _ (lt-ltb (nat_abs x) (level n a) r.low) (and_from _ _ (lt-ltb (nat_abs x) (level n b) r.high)
    (and_from _ _ (lt-ltb (nat_abs x) (level n c) r.rest) (and_from _ _ r.a_ordered (and_from _ _ r.b_ordered r.c_ordered))))))

pub negate_level : (n : ℕ) (d : Diagram) → ordered n d ≡ true → level n d ≤ level n (negate d).it
unfolding negate
negate_level n top o = omega arith
negate_level n bottom o = omega arith
negate_level n (node x a b c) o =
    let r = rising n x a b c o in
    let na = negate_level n a r.a_ordered in
    let nb = negate_level n b r.b_ordered in
    let nc = negate_level n c r.c_ordered in
    rw nat_abs_neg at (rewrite_level n 6 (neg_ℤ x) (part a) (part b) (part c) (rw nat_abs_neg r.last)
    (high_neg n x (part a) (record { plainly = r.low; turned = omega (arith, r.low) })) (high_neg n x (part b) (record { plainly = r.high; turned = omega (arith, r.high) })) (high_neg n x (part c) (record { plainly = r.rest; turned = omega (arith, r.rest) })))

pub reduce_level : (n : ℕ) (x : ℤ) (a b c : Diagram) → ordered n (node x a b c) ≡ true → nat_abs x ≤ level n (reduce x a b c).it
reduce_level n x a b c o =
    let r = rising n x a b c o in
    let na = negate_level n a r.a_ordered in
    let nb = negate_level n b r.b_ordered in
    let nc = negate_level n c r.c_ordered in
    rewrite_level n 6 x (part a) (part b) (part c) r.last
    (record { plainly = r.low; turned = omega (arith, r.low) }) (record { plainly = r.high; turned = omega (arith, r.high) }) (record { plainly = r.rest; turned = omega (arith, r.rest) })

pub rank_small : (x : ℤ) (a b : Diagram) → rank x a b < 6
rank_small x a b = go (lt_z x (pos 0)) (cond_1 (same a top)) (cond_1 (same b top))
  where
    go : (v : Bool) → cond (same a top) 0 1 ≤ 1 → cond (same b top) 0 1 ≤ 1 → cond v 3 0 + (cond (same a top) 0 1 + cond (same b top) 0 1) < 6
    go true p q = omega arith
    go false p q = omega arith

-- the rules as equations
pub law : (x : ℤ) (a b c : Diagram) (r : Option Rule) → rule x a b c ≡ r → reduce x a b c ≡ apply r (rewrite 6) x (part a) (part b) (part c)
unfolding rewrite
law x a b c r e =
    subst (λ (v : Option Rule). reduce x a b c ≡ apply v (rewrite 6) x (part a) (part b) (part c)) e
    (enough 6 x (part a) (part b) (part c) (rank_small x a b))

pub law_5 : (x : ℤ) (a b c : Diagram) → rule x a b c ≡ Some Five → reduce x a b c ≡ reduce x top bottom a
unfolding negate
law_5 x a b c e = law x a b c (Some Five) e

pub law_6 : (x : ℤ) (a b c : Diagram) → rule x a b c ≡ Some Six → reduce x a b c ≡ reduce x bottom top b
unfolding negate
law_6 x a b c e = law x a b c (Some Six) e

pub law_7 : (x : ℤ) (a b c : Diagram) → rule x a b c ≡ Some Seven → reduce x a b c ≡ reduce x a top c
unfolding negate
law_7 x a b c e = law x a b c (Some Seven) e

pub law_8 : (x : ℤ) (a b c : Diagram) → rule x a b c ≡ Some Eight → reduce x a b c ≡ reduce x top b c
unfolding negate
law_8 x a b c e = law x a b c (Some Eight) e

pub said : (x : ℤ) (a b c : Diagram) (r : Option Rule) → rule x a b c ≡ r → Says x a b c r
said x a b c r e = subst (Says x a b c) e (says x a b c)

pub law_9 : (x : ℤ) (a b c : Diagram) → rule x a b c ≡ Some Nine → reduce x a b c ≡ after (negate b).formed (reduce (neg_ℤ x) bottom (negate b).it top)
law_9 x a b c e =
    law x a b c (Some Nine) e
    ∙ ap (after (negate b).formed) (positive 6 (neg_ℤ x) -τ (plain (negate b).it) τ (part bottom) (part (negate b).it) (part top) (neg_negative x (said x a b c (Some Nine) e).0) refl refl refl)

pub law_10 : (x : ℤ) (a b c : Diagram) → rule x a b c ≡ Some Ten → reduce x a b c ≡ after (negate a).formed (reduce (neg_ℤ x) (negate a).it bottom top)
law_10 x a b c e =
    law x a b c (Some Ten) e
    ∙ ap (after (negate a).formed) (positive 6 (neg_ℤ x) (plain (negate a).it) -τ τ (part (negate a).it) (part bottom) (part top) (neg_negative x (said x a b c (Some Ten) e).0) refl refl refl)

-- the sign bears on no order
pub order_neg : (n : ℕ) (x : ℤ) (a b c : Diagram) → ordered n (node x a b c) ≡ true → ordered n (node (neg_ℤ x) a b c) ≡ true
unfolding ordered
order_neg n x a b c o = rw nat_abs_neg o
