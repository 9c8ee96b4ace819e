-- The table of conjunction as equations of `meet n`.
use Rattle.std.proofs.Common.{◌≡◌, ℕ, zero, suc, ◌<◌, ◌≤◌, Bool, true, false, cond, not, ◌&&◌, eqb, ltb, ◌⊎◌, ℤ, pos, negsuc, neg_ℤ, nat_abs, Some, None, Option, sym, refl, ap, ◌∙◌, subst, inl, inr, zero-le, not-suc-le-zero, arith}
use lib.Signed.{lt_z}
use Rattle.std.proofs.lemmas.Bool.{ltb-true, lt-ltb, le-ltb, ltb-false, cases_Bool, both_ways, eqb-true, eqb-false}
use Rattle.diagram.proofs.Same.{eqℤ_true}
use Rattle.diagram.specs.Diagrams.{Diagram, top, bottom, node, eqℤ, Made}
use Rattle.diagram.specs.Meet.{meet, nodes_step, under, under_positive, under_negative, level_with, both_positive, both_negative, opposite}
use Rattle.diagram.specs.RuleLaws.{Negative}
use Rattle.diagram.specs.MeetLaws.{Ordered, Positive, table, Conjunction}
use Rattle.diagram.proofs.Rewrites.{rising, nat_abs_neg}
use Rattle.diagram.proofs.Values.{neg_sign}
use Rattle.diagram.proofs.Laws.{meet_law}
use Rattle.diagram.proofs.Leaves.{meet_top, meet_bottom, top_meet, bottom_meet}

module _ (n : ℕ) (x : ℤ) (a b c : Diagram) (x' : ℤ) (a' b' c' : Diagram) (os : Ordered n (node x a b c)) (ot : Ordered n (node x' a' b' c')) where
  step : Bool → Bool → Made
  step u v = nodes_step (meet n) u v x a b c x' a' b' c'

  by_labels : meet n (node x a b c) (node x' a' b' c') ≡ step (ltb (nat_abs x) (nat_abs x')) (ltb (nat_abs x') (nat_abs x))
  unfolding step
  by_labels = meet_law n (node x a b c) (node x' a' b' c') os ot

  pub label_under : nat_abs x < nat_abs x' → meet n (node x a b c) (node x' a' b' c') ≡ under (meet n) (lt_z x (pos 0)) x a b c (node x' a' b' c')
  unfolding step
  label_under h = by_labels ∙ ap (λ (u : Bool). step u (ltb (nat_abs x') (nat_abs x))) (lt-ltb _ _ h)

  pub label_over : nat_abs x' < nat_abs x → meet n (node x a b c) (node x' a' b' c') ≡ under (meet n) (lt_z x' (pos 0)) x' a' b' c' (node x a b c)
  unfolding step
  label_over h =
      let l : nat_abs x' ≤ nat_abs x = omega arith in
      by_labels ∙ (λ i. step (le-ltb _ _ l i) (lt-ltb _ _ h i))

  pub label_level : nat_abs x ≡ nat_abs x' → meet n (node x a b c) (node x' a' b' c') ≡ level_with (meet n) (lt_z x (pos 0)) (lt_z x' (pos 0)) x a b c x' a' b' c'
  unfolding step
  label_level e =
      let l : nat_abs x' ≤ nat_abs x = omega arith in
      let l' : nat_abs x ≤ nat_abs x' = omega arith in
      by_labels ∙ (λ i. step (le-ltb _ _ l i) (le-ltb _ _ l' i))

positive_case : (n : ℕ) (x : ℤ) (a b c a' b' c' : Diagram) → Ordered n (node x a b c) → Ordered n (node x a' b' c') → Positive x
    → meet n (node x a b c) (node x a' b' c') ≡ both_positive (meet n) x a b c a' b' c'
positive_case n x a b c a' b' c' os ot p =
    label_level n x a b c x a' b' c' os ot refl ∙ (λ i. level_with (meet n) (p i) (p i) x a b c x a' b' c')

negative_case : (n : ℕ) (x : ℤ) (a b c a' b' c' : Diagram) → Ordered n (node x a b c) → Ordered n (node x a' b' c') → Negative x
    → meet n (node x a b c) (node x a' b' c') ≡ both_negative (meet n) x a b c a' b' c'
negative_case n x a b c a' b' c' os ot p =
    label_level n x a b c x a' b' c' os ot refl ∙ (λ i. level_with (meet n) (p i) (p i) x a b c x a' b' c')

-- the other sign of a positive label is negative
other : (n : ℕ) (x : ℤ) (a b c : Diagram) → Ordered n (node x a b c) → (s : Bool) → lt_z x (pos 0) ≡ s → lt_z (neg_ℤ x) (pos 0) ≡ not s
other n x a b c o s e = neg_sign x (rising n x a b c o).first ∙ ap not e

opposite_case : (n : ℕ) (x : ℤ) (a b c a' b' c' : Diagram) → Ordered n (node x a b c) → Ordered n (node (neg_ℤ x) a' b' c') → Positive x
    → meet n (node x a b c) (node (neg_ℤ x) a' b' c') ≡ opposite (meet n) x a b c a' b' c'
opposite_case n x a b c a' b' c' os ot p =
    let q : lt_z (neg_ℤ x) (pos 0) ≡ true = other n x a b c os false p in
    label_level n x a b c (neg_ℤ x) a' b' c' os ot (sym (nat_abs_neg x)) ∙ (λ i. level_with (meet n) (p i) (q i) x a b c (neg_ℤ x) a' b' c')

-- the two signs the other way round
swapped_case : (n : ℕ) (x : ℤ) (a b c : Diagram) (x' : ℤ) (a' b' c' : Diagram) → Ordered n (node x a b c) → Ordered n (node x' a' b' c')
    → nat_abs x ≡ nat_abs x' → Negative x → Positive x' → meet n (node x a b c) (node x' a' b' c') ≡ meet n (node x' a' b' c') (node x a b c)
swapped_case n x a b c x' a' b' c' os ot e p q =
    label_level n x a b c x' a' b' c' os ot e ∙ (λ i. level_with (meet n) (p i) (q i) x a b c x' a' b' c')
    ∙ sym (label_level n x' a' b' c' x a b c ot os (sym e) ∙ (λ i. level_with (meet n) (q i) (p i) x' a' b' c' x a b c))

-- two labels to which no case applies: the second is the smaller, or it is the positive one of two opposite labels
record Unmatched (x x' : ℤ) : Type 0 where
  differ : eqℤ x x' ≡ false
  not_under : ltb (nat_abs x) (nat_abs x') ≡ false
  not_opposite : Positive x → eqℤ x' (neg_ℤ x) ≡ false

unmatched : (x x' : ℤ) → 0 < nat_abs x → Unmatched x x' → (nat_abs x' < nat_abs x) ⊎ ((nat_abs x ≡ nat_abs x') × (Negative x × Positive x'))
unmatched (pos p) (pos q) z h =
    let l = ltb-false p q h.not_under in
    let e = eqb-false p q h.differ in
    inl (omega (arith, l, e))
unmatched (pos zero) (negsuc q) z h = absurd (not-suc-le-zero z)
unmatched (pos (suc p)) (negsuc q) z h =
    let l = ltb-false (suc p) (suc q) h.not_under in
    let e = eqb-false q p (h.not_opposite (le-ltb (suc p) 0 zero-le)) in
    inl (omega (arith, l, e))
unmatched (negsuc p) (pos q) z h = go (cases_Bool (eqb q (suc p))) (ltb-false (suc p) q h.not_under)
  where
    go : (eqb q (suc p) ≡ true) ⊎ (eqb q (suc p) ≡ false) → q ≤ suc p → (q < suc p) ⊎ ((suc p ≡ q) × (Negative (negsuc p) × Positive (pos q)))
    go (inl e) l = inr (sym (eqb-true q (suc p) e), (refl, le-ltb q 0 zero-le))
    go (inr e) l = inl (let n = eqb-false q (suc p) e in omega arith)
unmatched (negsuc p) (negsuc q) z h =
    let l = ltb-false (suc p) (suc q) h.not_under in
    let e = eqb-false p q h.differ in
    inl (omega (arith, l, e))

-- what a case of the table says of the conjunction
abbrev Agrees : ℕ → Diagram → Diagram → Option Made → Type 0
Agrees n s t (Some m) = meet n s t ≡ m
Agrees n s t None = meet n s t ≡ meet n t s

module _ (n : ℕ) (x : ℤ) (a b c : Diagram) (x' : ℤ) (a' b' c' : Diagram) (os : Ordered n (node x a b c)) (ot : Ordered n (node x' a' b' c')) where
  nodes_places : Unmatched x x' → meet n (node x a b c) (node x' a' b' c') ≡ meet n (node x' a' b' c') (node x a b c)
  nodes_places h = go (unmatched x x' (rising n x a b c os).first h)
    where
      go : (nat_abs x' < nat_abs x) ⊎ ((nat_abs x ≡ nat_abs x') × (Negative x × Positive x')) → meet n (node x a b c) (node x' a' b' c') ≡ meet n (node x' a' b' c') (node x a b c)
      go (inl l) = label_over n x a b c x' a' b' c' os ot l ∙ sym (label_under n x' a' b' c' x a b c ot os l)
      go (inr p) = swapped_case n x a b c x' a' b' c' os ot p.0 p.1.0 p.1.1

  -- the nodes' part of the table, by the four tests
  cases : (e p o l : Bool) → Option Made
  cases e p o l =
      cond (e && not p) (Some (both_positive (meet n) x a b c a' b' c'))
      (cond (e && p) (Some (both_negative (meet n) x a b c a' b' c'))
      (cond (not p && o) (Some (opposite (meet n) x a b c a' b' c'))
      (cond (not p && l) (Some (under_positive (meet n) x a b c (node x' a' b' c')))
      (cond (p && l) (Some (under_negative (meet n) x a b c (node x' a' b' c')))
      None))))

  nodes_agree : (e p o l : Bool) → eqℤ x x' ≡ e → lt_z x (pos 0) ≡ p → eqℤ x' (neg_ℤ x) ≡ o → ltb (nat_abs x) (nat_abs x') ≡ l
      → Agrees n (node x a b c) (node x' a' b' c') (cases e p o l)
  unfolding cases
  nodes_agree true false o l he hp ho hl =
      let q = eqℤ_true x x' he in
      let p' : Positive x' = rw (← q) hp in
      label_level n x a b c x' a' b' c' os ot (ap nat_abs q) ∙ (λ i. level_with (meet n) (hp i) (p' i) x a b c x' a' b' c')
  nodes_agree true true o l he hp ho hl =
      let q = eqℤ_true x x' he in
      let p' : Negative x' = rw (← q) hp in
      label_level n x a b c x' a' b' c' os ot (ap nat_abs q) ∙ (λ i. level_with (meet n) (hp i) (p' i) x a b c x' a' b' c')
  nodes_agree false false true l he hp ho hl =
      let q = eqℤ_true x' (neg_ℤ x) ho in
      let p' : Negative x' = ap (λ (y : ℤ). lt_z y (pos 0)) q ∙ other n x a b c os false hp in
      label_level n x a b c x' a' b' c' os ot (sym (ap nat_abs q ∙ nat_abs_neg x)) ∙ (λ i. level_with (meet n) (hp i) (p' i) x a b c x' a' b' c')
  nodes_agree false false false true he hp ho hl = label_under n x a b c x' a' b' c' os ot (ltb-true _ _ hl) ∙ ap (λ (u : Bool). under (meet n) u x a b c (node x' a' b' c')) hp
  nodes_agree false false false false he hp ho hl = nodes_places (record { differ = he; not_under = hl; not_opposite = λ _. ho })
  nodes_agree false true o true he hp ho hl = label_under n x a b c x' a' b' c' os ot (ltb-true _ _ hl) ∙ ap (λ (u : Bool). under (meet n) u x a b c (node x' a' b' c')) hp
  nodes_agree false true o false he hp ho hl = nodes_places (record { differ = he; not_under = hl; not_opposite = λ p. absurd (both_ways (lt_z x (pos 0)) p hp) })

  -- no case applies
  nodes_none : (e p o l : Bool) → eqℤ x x' ≡ e → lt_z x (pos 0) ≡ p → eqℤ x' (neg_ℤ x) ≡ o → ltb (nat_abs x) (nat_abs x') ≡ l → cases e p o l ≡ None → Unmatched x x'
  unfolding cases
  nodes_none true false o l he hp ho hl h = absurd (cc)
  nodes_none true true o l he hp ho hl h = absurd (cc)
  nodes_none false false true l he hp ho hl h = absurd (cc)
  nodes_none false false false true he hp ho hl h = absurd (cc)
  nodes_none false false false false he hp ho hl h = record { differ = he; not_under = hl; not_opposite = λ _. ho }
  nodes_none false true o true he hp ho hl h = absurd (cc)
  nodes_none false true o false he hp ho hl h = record { differ = he; not_under = hl; not_opposite = λ p. absurd (both_ways (lt_z x (pos 0)) p hp) }

  table_none : table n (node x a b c) (node x' a' b' c') ≡ None → Unmatched x x'
  unfolding cases
  table_none h = nodes_none (eqℤ x x') (lt_z x (pos 0)) (eqℤ x' (neg_ℤ x)) (ltb (nat_abs x) (nat_abs x')) refl refl refl refl h

  table_agrees : Agrees n (node x a b c) (node x' a' b' c') (table n (node x a b c) (node x' a' b' c'))
  unfolding cases
  table_agrees = nodes_agree (eqℤ x x') (lt_z x (pos 0)) (eqℤ x' (neg_ℤ x)) (ltb (nat_abs x) (nat_abs x')) refl refl refl refl

agrees : (n : ℕ) (s t : Diagram) → Ordered n s → Ordered n t → Agrees n s t (table n s t)
agrees n s top os ot = meet_top n s os
agrees n s bottom os ot = meet_bottom n s os
agrees n top (node x' a' b' c') os ot = top_meet n (node x' a' b' c') ot ∙ sym (meet_top n (node x' a' b' c') ot)
agrees n bottom (node x' a' b' c') os ot = bottom_meet n (node x' a' b' c') ot ∙ sym (meet_bottom n (node x' a' b' c') ot)
agrees n (node x a b c) (node x' a' b' c') os ot = table_agrees n x a b c x' a' b' c' os ot

-- two labels cannot both be past the other
never : (x x' : ℤ) → 0 < nat_abs x → 0 < nat_abs x' → Unmatched x x' → Unmatched x' x → ⊥
never x x' z z' u u' = go (unmatched x x' z u) (unmatched x' x z' u')
  where
    go : (nat_abs x' < nat_abs x) ⊎ ((nat_abs x ≡ nat_abs x') × (Negative x × Positive x')) → (nat_abs x < nat_abs x') ⊎ ((nat_abs x' ≡ nat_abs x) × (Negative x' × Positive x)) → ⊥
    go (inl l) (inl l') = omega arith
    go (inl l) (inr p) = omega (arith, p.0)
    go (inr p) (inl l) = omega (arith, p.0)
    go (inr p) (inr p') = both_ways (lt_z x (pos 0)) p'.1.1 p.1.0

one_applies : (n : ℕ) (s t : Diagram) → Ordered n s → Ordered n t → table n s t ≡ None → table n t s ≡ None → ⊥
one_applies n s top os ot h k = cc
one_applies n s bottom os ot h k = cc
one_applies n top (node x' a' b' c') os ot h k = cc
one_applies n bottom (node x' a' b' c') os ot h k = cc
one_applies n (node x a b c) (node x' a' b' c') os ot h k =
    never x x' (rising n x a b c os).first (rising n x' a' b' c' ot).first (table_none n x a b c x' a' b' c' os ot h) (table_none n x' a' b' c' x a b c ot os k)

pub conjunction : (n : ℕ) → Conjunction n
unfolding both_positive both_negative opposite under_positive under_negative
conjunction n = record {
  with_top = meet_top n;
  with_bottom = meet_bottom n;
  both_positive = positive_case n;
  both_negative = negative_case n;
  opposite = opposite_case n;
  under_positive = λ x a b c x' a' b' c' os ot p l. label_under n x a b c x' a' b' c' os ot l ∙ ap (λ (u : Bool). under (meet n) u x a b c (node x' a' b' c')) p;
  under_negative = λ x a b c x' a' b' c' os ot p l. label_under n x a b c x' a' b' c' os ot l ∙ ap (λ (u : Bool). under (meet n) u x a b c (node x' a' b' c')) p;
  applies = λ s t os ot m e. subst (Agrees n s t) e (agrees n s t os ot);
  places = λ s t os ot e. subst (Agrees n s t) e (agrees n s t os ot);
  once = one_applies n;
}
