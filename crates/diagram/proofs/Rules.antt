-- Each rewrite rule as an equation, wherever it fits; and what it is that no rule changes a quadruple.
use Rattle.std.proofs.Common.{Some, None, Option, ◌≡◌, Bool, true, false, cond, not, ◌&&◌, ◌⊎◌, ℤ, pos, neg_ℤ, sym, refl, ◌∙◌, subst, inl, inr}
use lib.Signed.{lt_z}
use Rattle.std.proofs.lemmas.Bool.{and_from, not_from_false, cases_Bool, both_ways, false≢true}
use Rattle.diagram.specs.Diagrams.{Diagram, top, bottom, node, same}
use Rattle.diagram.specs.Rules.{after, pick, rule, apply, negate, part, reduce}
use Rattle.diagram.specs.RuleLaws.{Negative, times, Settled, Rewriting, Negating}
use Rattle.diagram.specs.declared.rule.Rule.{Rule}
use Rattle.diagram.specs.declared.rule.Rule.TheVariants.{One, Two, Three, Four, Five, Six, Seven, Eight, Nine, Ten}
use Rattle.diagram.proofs.Same.{same_refl, same_true}
use Rattle.diagram.proofs.Formed.{reduce_told}
use Rattle.diagram.proofs.Rewrites.{Says, says, law, law_5, law_6, law_7, law_8, law_9, law_10, neg_negative}

-- reducing goes on by reducing
first_rule : (x : ℤ) (a b c : Diagram)
    → reduce x a b c ≡ apply (rule x a b c) (λ y d e f. reduce y d.it e.it f.it) x (part a) (part b) (part c)
first_rule x a b c = go (rule x a b c) refl
  where
    go : (r : Option Rule) → rule x a b c ≡ r → reduce x a b c ≡ apply r (λ y d e f. reduce y d.it e.it f.it) x (part a) (part b) (part c)
    go (Some One) e = law x a b c (Some One) e
    go (Some Two) e = law x a b c (Some Two) e
    go (Some Three) e = law x a b c (Some Three) e
    go (Some Four) e = law x a b c (Some Four) e
    go (Some Five) e = law_5 x a b c e
    go (Some Six) e = law_6 x a b c e
    go (Some Seven) e = law_7 x a b c e
    go (Some Eight) e = law_8 x a b c e
    go (Some Nine) e = law_9 x a b c e
    go (Some Ten) e = law_10 x a b c e
    go None e = law x a b c None e

one : (x : ℤ) (c : Diagram) → reduce x bottom bottom c ≡ times x bottom
unfolding same negate
one x c = law x bottom bottom c (Some One) refl

two : (x : ℤ) (a b : Diagram) → reduce x a b bottom ≡ times x bottom
unfolding same negate
two x top b = law x top b bottom (Some Two) refl
two x bottom top = law x bottom top bottom (Some Two) refl
two x bottom bottom = law x bottom bottom bottom (Some One) refl
two x bottom (node y d e f) = law x bottom (node y d e f) bottom (Some Two) refl
two x (node y d e f) b = law x (node y d e f) b bottom (Some Two) refl

three : (x : ℤ) (c : Diagram) → reduce x top top c ≡ times x c
unfolding same negate
three x top = law x top top top (Some Three) refl
three x bottom = law x top top bottom (Some Two) refl
three x (node y d e f) = law x top top (node y d e f) (Some Three) refl

four : (x : ℤ) (a : Diagram) → reduce x a a top ≡ times x a
unfolding same negate
four x top = law x top top top (Some Three) refl
four x bottom = law x bottom bottom top (Some One) refl
four x (node y d e f) = law x (node y d e f) (node y d e f) top (Some Four) (fits (same (node y d e f) (node y d e f)) (same_refl (node y d e f)))
  where
    fits : (s : Bool) → s ≡ true → pick false false false false true false s false false (lt_z x (pos 0)) ≡ Some Four
    fits true e = refl
    fits false e = absurd (false≢true e)

five : (x : ℤ) (a : Diagram) → reduce x a bottom top ≡ reduce x top bottom a
unfolding same
five x top = refl
five x bottom = one x top ∙ sym (two x top bottom)
five x (node y d e f) = law_5 x (node y d e f) bottom top refl

six : (x : ℤ) (b : Diagram) → reduce x bottom b top ≡ reduce x bottom top b
unfolding same
six x top = refl
six x bottom = one x top ∙ sym (two x bottom top)
six x (node y d e f) = law_6 x bottom (node y d e f) top refl

-- where b and c are one node, rule 7 comes first
seven_first : (aT aB ab bc ac negative : Bool) → bc ≡ true → pick aT aB false false false false ab bc ac negative ≡ Some Seven
seven_first aT aB ab false ac negative e = absurd (false≢true e)
seven_first true true true true ac negative e = refl
seven_first true true false true ac negative e = refl
seven_first true false true true ac negative e = refl
seven_first true false false true ac negative e = refl
seven_first false true true true ac negative e = refl
seven_first false true false true ac negative e = refl
seven_first false false true true ac negative e = refl
seven_first false false false true ac negative e = refl

seven : (x : ℤ) (a c : Diagram) → reduce x a c c ≡ reduce x a top c
unfolding same
seven x a top = refl
seven x a bottom = two x a bottom ∙ sym (two x a top)
seven x a (node y d e f) =
    law_7 x a (node y d e f) (node y d e f)
    (seven_first (same a top) (same a bottom) (same a (node y d e f)) (same (node y d e f) (node y d e f)) (same a (node y d e f)) (lt_z x (pos 0)) (same_refl (node y d e f)))

-- where a and c are one node and b is another diagram, rule 8 comes first
eight_first : (bT bB ab bc ac negative : Bool) → bc ≡ false → ac ≡ true → pick false false bT bB false false ab bc ac negative ≡ Some Eight
eight_first bT bB ab true ac negative e f = absurd (both_ways true e refl)
eight_first bT bB ab false false negative e f = absurd (false≢true f)
eight_first true true true false true negative e f = refl
eight_first true true false false true negative e f = refl
eight_first true false true false true negative e f = refl
eight_first true false false false true negative e f = refl
eight_first false true true false true negative e f = refl
eight_first false true false false true negative e f = refl
eight_first false false true false true negative e f = refl
eight_first false false false false true negative e f = refl

eight : (x : ℤ) (b c : Diagram) → reduce x c b c ≡ reduce x top b c
unfolding same
eight x b top = refl
eight x b bottom = two x bottom b ∙ sym (two x top b)
eight x b (node y d e f) = go (cases_Bool (same b (node y d e f)))
  where
    c : Diagram
    c = node y d e f

    plain : same b (node y d e f) ≡ false → reduce x (node y d e f) b (node y d e f) ≡ reduce x top b (node y d e f)
    plain h =
        law_8 x (node y d e f) b (node y d e f)
        (eight_first (same b top) (same b bottom) (same (node y d e f) b) (same b (node y d e f)) (same (node y d e f) (node y d e f)) (lt_z x (pos 0)) h (same_refl (node y d e f)))

    go : (same b (node y d e f) ≡ true) ⊎ (same b (node y d e f) ≡ false) → reduce x (node y d e f) b (node y d e f) ≡ reduce x top b (node y d e f)
    go (inl h) =
        subst (λ (v : Diagram). reduce x (node y d e f) v (node y d e f) ≡ reduce x top v (node y d e f)) (sym (same_true b (node y d e f) h))
        (seven x (node y d e f) (node y d e f) ∙ law_8 x (node y d e f) top (node y d e f) (eight_first true false false false (same (node y d e f) (node y d e f)) (lt_z x (pos 0)) refl (same_refl (node y d e f))) ∙ sym (seven x top (node y d e f)))
    go (inr h) = plain h

nine_first : (bB negative : Bool) → negative ≡ true → pick true false false bB true false false false true negative ≡ Some Nine
nine_first true true e = refl
nine_first false true e = refl
nine_first bB false e = absurd (false≢true e)

ten_first : (aB negative : Bool) → negative ≡ true → pick false aB true false true false false true false negative ≡ Some Ten
ten_first true true e = refl
ten_first false true e = refl
ten_first aB false e = absurd (false≢true e)

-- (−y, τ, τ, τ) is −τ, and so is (y, −τ, −τ, τ)
none_left : (x : ℤ) → Negative x → reduce x top top top ≡ reduce (neg_ℤ x) bottom bottom top
unfolding negate
none_left x e = three x top ∙ rw (e, neg_negative x e) refl ∙ sym (one (neg_ℤ x) top)

nine : (x : ℤ) (b : Diagram) → Negative x → reduce x top b top ≡ after (negate b).formed (reduce (neg_ℤ x) bottom (negate b).it top)
unfolding same negate
nine x top e = none_left x e
nine x bottom e = law_9 x top bottom top (nine_first true (lt_z x (pos 0)) e)
nine x (node y d f g) e = law_9 x top (node y d f g) top (nine_first false (lt_z x (pos 0)) e)

ten : (x : ℤ) (a : Diagram) → Negative x → reduce x a top top ≡ after (negate a).formed (reduce (neg_ℤ x) (negate a).it bottom top)
unfolding same negate
ten x top e = none_left x e
ten x bottom e = law_10 x bottom top top (ten_first true (lt_z x (pos 0)) e)
ten x (node y d f g) e = law_10 x (node y d f g) top top (ten_first false (lt_z x (pos 0)) e)

-- no rule changes it: the table says so too
pub stops_at : (x : ℤ) (a b c : Diagram) → Settled x a b c → rule x a b c ≡ None
stops_at x a b c s = go (rule x a b c) (says x a b c)
  where
    is : (d e : Diagram) → same d e ≡ true → d ≡ e
    is d e h = same_true d e h

    not_so : (d e : Diagram) → same d e ≡ false → d ≡ e → ⊥
    not_so d e h p = both_ways (same d e) h (rw p (same_refl e))

    go : (r : Option Rule) → Says x a b c r → r ≡ None
    go (Some One) h = absurd (s.not_one (is a bottom h.0) (is b bottom h.1))
    go (Some Two) h = absurd (s.not_two (is c bottom h))
    go (Some Three) h = absurd (s.not_three (is a top h.0) (is b top h.1))
    go (Some Four) h = absurd (s.not_four (is a b h.0) (is c top h.1))
    go (Some Five) h = absurd (not_so a top h.1.1 (s.not_five (is b bottom h.0) (is c top h.1.0)))
    go (Some Six) h = absurd (not_so b top h.1.1 (s.not_six (is a bottom h.0) (is c top h.1.0)))
    go (Some Seven) h = absurd (not_so b top h.1 (s.not_seven (is b c h.0)))
    go (Some Eight) h = absurd (not_so a top h.1 (s.not_eight (is a c h.0)))
    go (Some Nine) h = absurd (s.not_nine h.0 (is a top h.1.0) (is c top h.1.1))
    go (Some Ten) h = absurd (s.not_ten h.0 (is b top h.1.0) (is c top h.1.1))
    go None h = refl

pub rewriting : Rewriting
rewriting = record {
  first = first_rule;
  one = one;
  two = two;
  three = three;
  four = four;
  five = five;
  six = six;
  seven = seven;
  eight = eight;
  nine = nine;
  ten = ten;
  stop = λ x a b c s. law x a b c None (stops_at x a b c s);
  formed = reduce_told;
}

pub negating : Negating
unfolding negate
negating = record { of_top = refl; of_bottom = refl; of_node = λ x a b c. refl }

-- a test that is passed over, and what comes after it
passed : (t : Bool) (r : Rule) (rest : Option Rule) → cond t (Some r) rest ≡ None → (t ≡ false) × (rest ≡ None)
passed true r rest e = absurd (cc)
passed false r rest e = (refl, e)

-- the ten tests of a quadruple that no rule changes
record Failed (aT aB bT bB cT cB ab bc ac negative : Bool) : Type 0 where
  one : (aB && bB) ≡ false
  two : cB ≡ false
  three : (aT && bT) ≡ false
  four : (ab && cT) ≡ false
  five : (bB && (cT && not aT)) ≡ false
  six : (aB && (cT && not bT)) ≡ false
  seven : (bc && not bT) ≡ false
  eight : (ac && not aT) ≡ false
  nine : (negative && (aT && cT)) ≡ false
  ten : (negative && (bT && cT)) ≡ false

failed : (aT aB bT bB cT cB ab bc ac negative : Bool) → pick aT aB bT bB cT cB ab bc ac negative ≡ None → Failed aT aB bT bB cT cB ab bc ac negative
failed aT aB bT bB cT cB ab bc ac negative e =
    let p1 = passed (aB && bB) One _ e in
    let p2 = passed cB Two _ p1.1 in
    let p3 = passed (aT && bT) Three _ p2.1 in
    let p4 = passed (ab && cT) Four _ p3.1 in
    let p5 = passed (bB && (cT && not aT)) Five _ p4.1 in
    let p6 = passed (aB && (cT && not bT)) Six _ p5.1 in
    let p7 = passed (bc && not bT) Seven _ p6.1 in
    let p8 = passed (ac && not aT) Eight _ p7.1 in
    let p9 = passed (negative && (aT && cT)) Nine _ p8.1 in
    let p10 = passed (negative && (bT && cT)) Ten _ p9.1 in
    record { one = p1.0; two = p2.0; three = p3.0; four = p4.0; five = p5.0; six = p6.0; seven = p7.0; eight = p8.0; nine = p9.0; ten = p10.0 }

-- the table says that no rule applies: none changes it
pub settles : (x : ℤ) (a b c : Diagram) → rule x a b c ≡ None → Settled x a b c
settles x a b c e = record {
  not_one = λ p q. clash f.one (and_from _ _ (is a bottom p) (is b bottom q));
  not_two = λ p. clash f.two (is c bottom p);
  not_three = λ p q. clash f.three (and_from _ _ (is a top p) (is b top q));
  not_four = λ p q. clash f.four (and_from _ _ (is a b p) (is c top q));
  not_five = λ p q. top_or a (cases_Bool (same a top)) (λ h. clash f.five (and_from _ _ (is b bottom p) (and_from _ _ (is c top q) (not_from_false _ h))));
  not_six = λ p q. top_or b (cases_Bool (same b top)) (λ h. clash f.six (and_from _ _ (is a bottom p) (and_from _ _ (is c top q) (not_from_false _ h))));
  not_seven = λ p. top_or b (cases_Bool (same b top)) (λ h. clash f.seven (and_from _ _ (is b c p) (not_from_false _ h)));
  not_eight = λ p. top_or a (cases_Bool (same a top)) (λ h. clash f.eight (and_from _ _ (is a c p) (not_from_false _ h)));
  not_nine = λ n p q. clash f.nine (and_from _ _ n (and_from _ _ (is a top p) (is c top q)));
  not_ten = λ n p q. clash f.ten (and_from _ _ n (and_from _ _ (is b top p) (is c top q)));
}
  where
    f : Failed (same a top) (same a bottom) (same b top) (same b bottom) (same c top) (same c bottom) (same a b) (same b c) (same a c) (lt_z x (pos 0))
    f = failed (same a top) (same a bottom) (same b top) (same b bottom) (same c top) (same c bottom) (same a b) (same b c) (same a c) (lt_z x (pos 0)) e

    is : (d e : Diagram) → d ≡ e → same d e ≡ true
    is d e p = rw p (same_refl e)

    clash : {t : Bool} → t ≡ false → t ≡ true → ⊥
    clash {t} p q = both_ways t p q

    top_or : (d : Diagram) → (same d top ≡ true) ⊎ (same d top ≡ false) → (same d top ≡ false → ⊥) → d ≡ top
    top_or d (inl h) n = same_true d top h
    top_or d (inr h) n = absurd (n h)
