use Rattle.std.proofs.Common.{◌≡◌, ℕ, zero, suc, ◌+◌, ◌-◌, ◌<◌, ◌≤◌, Bool, true, false, not, ◌&&◌, ltb, ℤ, pos, nat_abs, sym, refl, ap, ◌∙◌, not-suc-le-zero, arith}
use lib.Signed.{lt_z}
use Rattle.std.proofs.lemmas.Bool.{ltb-true, ltb-false}
use Rattle.diagram.specs.Diagrams.{Diagram, top, bottom, node, ordered, Made}
use Rattle.diagram.specs.Rules.{negate, reduce}
use Rattle.diagram.specs.Meet.{meet, meet_within, nodes_step, under, under_negative, under_positive, nand, without, minus, either, level_with, both_negative, both_positive, opposite}
use Rattle.diagram.specs.Values.{mean, Assignment, value}
use Rattle.diagram.proofs.Rewrites.{Rising, rising}
use Rattle.diagram.proofs.Goods.{Over, over_leaf, over_negate, over_nand, over_without, over_minus, over_either, depth, over_met, meet_good}
use Rattle.diagram.proofs.Laws.{level_first}
use Rattle.diagram.proofs.Bools.{and_true, and_false, and_swap, m_neg, m_pos, m_opp, m_under_pos, m_under_neg}
use Rattle.diagram.proofs.Values.{value_node, value_negate, value_reduce}

module _ (n : ℕ) (x : ℤ) (g : Assignment) (f : Diagram → Diagram → Made) (l : nat_abs x ≤ n) (z : 0 < nat_abs x)
    (over_f : (s t : Diagram) → Over n x s → Over n x t → Over n x (f s t).it)
    (val_f : (s t : Diagram) → Over n x s → Over n x t → value (f s t).it g ≡ (value s g && value t g)) where
  val_reduce : (a b c : Diagram) → Over n x a → Over n x b → Over n x c
      → value (reduce x a b c).it g ≡ mean (lt_z x (pos 0)) (g (nat_abs x)) (value a g) (value b g) (value c g)
  val_reduce a b c oa ob oc = value_reduce n g x a b c oa.fine ob.fine oc.fine ∙ value_node g x a b c

  val_not : (d : Diagram) → Over n x d → value (negate d).it g ≡ not (value d g)
  val_not d o = value_negate n g d o.fine

  val_nand : (p q : Diagram) → Over n x p → Over n x q → value (nand f p q).it g ≡ not (value p g && value q g)
  unfolding nand
  val_nand p q op oq = val_not _ (over_f _ _ op oq) ∙ ap not (val_f p q op oq)

  val_without : (p t : Diagram) → Over n x p → Over n x t → value (without f p t).it g ≡ not (not (value p g) && value t g)
  unfolding without
  val_without p t op ot = val_nand _ t (over_negate n x p op) ot ∙ ap (λ v. not (v && value t g)) (val_not p op)

  val_minus : (a p q : Diagram) → Over n x a → Over n x p → Over n x q → value (minus f a p q).it g ≡ (value a g && not (value p g && value q g))
  unfolding minus
  val_minus a p q oa op oq = val_f a _ oa (over_nand n x f z l over_f p q op oq) ∙ ap (λ v. value a g && v) (val_nand p q op oq)

  val_either : (p q p' q' : Diagram) → Over n x p → Over n x q → Over n x p' → Over n x q'
      → value (either f p q p' q').it g ≡ not (not (value p g && value q g) && not (value p' g && value q' g))
  unfolding either
  val_either p q p' q' op oq op' oq' =
      val_nand _ _ (over_nand n x f z l over_f p q op oq) (over_nand n x f z l over_f p' q' op' oq')
      ∙ rw (val_nand p q op oq, val_nand p' q' op' oq')

  val_under : (v : Bool) (a b c t : Diagram) → lt_z x (pos 0) ≡ v → Over n x a → Over n x b → Over n x c → Over n x t
      → value (under f v x a b c t).it g ≡ (value (node x a b c) g && value t g)
  unfolding under_negative under_positive
  val_under true a b c t e oa ob oc ot =
      val_reduce _ _ _ (over_without n x f z l over_f a t oa ot) (over_without n x f z l over_f b t ob ot) (over_without n x f z l over_f c t oc ot)
      ∙ rw (value_node g x a b c, e, val_without a t oa ot, val_without b t ob ot, val_without c t oc ot) (m_under_neg (g (nat_abs x)) (value a g) (value b g) (value c g) (value t g))
  val_under false a b c t e oa ob oc ot =
      val_reduce a b _ oa ob (over_f _ _ oc ot)
      ∙ rw (value_node g x a b c, e, val_f c t oc ot) (m_under_pos (g (nat_abs x)) (value a g) (value b g) (value c g) (value t g))

  module _ (x' : ℤ) (a b c a' b' c' : Diagram) (q : nat_abs x' ≡ nat_abs x) (oa : Over n x a) (ob : Over n x b) (oc : Over n x c) (oa' : Over n x a') (ob' : Over n x b') (oc' : Over n x c') where
    val_both_positive : lt_z x (pos 0) ≡ false → lt_z x' (pos 0) ≡ false → value (both_positive f x a b c a' b' c').it g ≡ (value (node x a b c) g && value (node x' a' b' c') g)
    unfolding both_positive
    val_both_positive e e' =
        val_reduce _ _ _ (over_f _ _ oa oa') (over_f _ _ ob ob') (over_f _ _ oc oc')
        ∙ rw (value_node g x a b c, value_node g x' a' b' c', e, e', q, val_f a a' oa oa', val_f b b' ob ob', val_f c c' oc oc') (m_pos _ (value a g) (value b g) (value c g) (value a' g) (value b' g) (value c' g))

    val_both_negative : lt_z x (pos 0) ≡ true → lt_z x' (pos 0) ≡ true → value (both_negative f x a b c a' b' c').it g ≡ (value (node x a b c) g && value (node x' a' b' c') g)
    unfolding both_negative
    val_both_negative e e' =
        val_reduce _ _ _ (over_either n x f z l over_f a c a' c' oa oc oa' oc') (over_either n x f z l over_f b c b' c' ob oc ob' oc') (over_leaf n x l).0
        ∙ rw (value_node g x a b c, value_node g x' a' b' c', e, e', q, val_either a c a' c' oa oc oa' oc', val_either b c b' c' ob oc ob' oc') (top_last)
      where
        top_last : mean true (g (nat_abs x)) (not (not (value a g && value c g) && not (value a' g && value c' g))) (not (not (value b g && value c g) && not (value b' g && value c' g))) (value top g) ≡ (mean true (g (nat_abs x)) (value a g) (value b g) (value c g) && mean true (g (nat_abs x)) (value a' g) (value b' g) (value c' g))
        top_last = unfold value in m_neg (g (nat_abs x)) (value a g) (value b g) (value c g) (value a' g) (value b' g) (value c' g)

    val_opposite : lt_z x (pos 0) ≡ false → lt_z x' (pos 0) ≡ true → value (opposite f x a b c a' b' c').it g ≡ (value (node x a b c) g && value (node x' a' b' c') g)
    unfolding opposite
    val_opposite e e' =
        val_reduce _ _ _ (over_minus n x f z l over_f a a' c' oa oa' oc') (over_minus n x f z l over_f b b' c' ob ob' oc') oc
        ∙ rw (value_node g x a b c, value_node g x' a' b' c', e, e', q, val_minus a a' c' oa oa' oc', val_minus b b' c' ob ob' oc')
        (m_opp _ (value a g) (value b g) (value c g) (value a' g) (value b' g) (value c' g))

-- two nodes, where the conjunctions of less depth are known
nodes_value : (n k : ℕ) (g : Assignment) (x : ℤ) (a b c : Diagram) (x' : ℤ) (a' b' c' : Diagram)
    → ordered n (node x a b c) ≡ true → ordered n (node x' a' b' c') ≡ true → depth n (node x a b c) (node x' a' b' c') < suc k
    → ((s t : Diagram) → ordered n s ≡ true → ordered n t ≡ true → depth n s t < k → value (meet_within k s t).it g ≡ (value s g && value t g))
    → value (nodes_step (meet_within k) (ltb (nat_abs x) (nat_abs x')) (ltb (nat_abs x') (nat_abs x)) x a b c x' a' b' c').it g ≡ (value (node x a b c) g && value (node x' a' b' c') g)
nodes_value n k g x a b c x' a' b' c' os ot h ih = go (ltb (nat_abs x) (nat_abs x')) (ltb (nat_abs x') (nat_abs x)) refl refl
  where
    r : Rising n x a b c
    r = rising n x a b c os

    r' : Rising n x' a' b' c'
    r' = rising n x' a' b' c' ot

    over : (y : ℤ) → nat_abs y ≤ n → n + 1 - nat_abs y ≤ k → (s t : Diagram) → Over n y s → Over n y t → Over n y (meet_within k s t).it
    over y l d = over_met n k y (meet_within k) l d (meet_good n k)

    val : (y : ℤ) → nat_abs y ≤ n → n + 1 - nat_abs y ≤ k → (s t : Diagram) → Over n y s → Over n y t → value (meet_within k s t).it g ≡ (value s g && value t g)
    val y l d s t o o' = ih s t o.fine o'.fine (omega (arith, o.past, o'.past))

    go : (u v : Bool) → ltb (nat_abs x) (nat_abs x') ≡ u → ltb (nat_abs x') (nat_abs x) ≡ v
        → value (nodes_step (meet_within k) u v x a b c x' a' b' c').it g ≡ (value (node x a b c) g && value (node x' a' b' c') g)
    go true v e e' =
        let d : n + 1 - nat_abs x ≤ k = omega (arith, h, ltb-true (nat_abs x) (nat_abs x') e) in
        val_under n x g (meet_within k) r.last r.first (over x r.last d) (val x r.last d) (lt_z x (pos 0)) a b c (node x' a' b' c') refl
        (record { fine = r.a_ordered; past = r.low }) (record { fine = r.b_ordered; past = r.high }) (record { fine = r.c_ordered; past = r.rest })
        (record { fine = ot; past = ltb-true (nat_abs x) (nat_abs x') e })
    go false true e e' =
        let d : n + 1 - nat_abs x' ≤ k = omega (arith, h, ltb-true (nat_abs x') (nat_abs x) e') in
        val_under n x' g (meet_within k) r'.last r'.first (over x' r'.last d) (val x' r'.last d) (lt_z x' (pos 0)) a' b' c' (node x a b c) refl
        (record { fine = r'.a_ordered; past = r'.low }) (record { fine = r'.b_ordered; past = r'.high }) (record { fine = r'.c_ordered; past = r'.rest })
        (record { fine = os; past = ltb-true (nat_abs x') (nat_abs x) e' })
        ∙ and_swap (value (node x' a' b' c') g) (value (node x a b c) g)
    go false false e e' =
        let p = ltb-false (nat_abs x) (nat_abs x') e in
        let p' = ltb-false (nat_abs x') (nat_abs x) e' in
        signs (lt_z x (pos 0)) (lt_z x' (pos 0)) refl refl (omega (arith, p, p')) (omega (arith, h, p, p')) (omega (arith, h, p, p'))
      where
        signs : (u v : Bool) → lt_z x (pos 0) ≡ u → lt_z x' (pos 0) ≡ v → nat_abs x' ≡ nat_abs x → n + 1 - nat_abs x ≤ k → n + 1 - nat_abs x' ≤ k
            → value (level_with (meet_within k) u v x a b c x' a' b' c').it g ≡ (value (node x a b c) g && value (node x' a' b' c') g)
        signs true true i j q d d' =
            val_both_negative n x g (meet_within k) r.last r.first (over x r.last d) (val x r.last d) x' a b c a' b' c' q
            (record { fine = r.a_ordered; past = r.low }) (record { fine = r.b_ordered; past = r.high }) (record { fine = r.c_ordered; past = r.rest })
            (record { fine = r'.a_ordered; past = omega (arith, r'.low) }) (record { fine = r'.b_ordered; past = omega (arith, r'.high) }) (record { fine = r'.c_ordered; past = omega (arith, r'.rest) })
            i j
        signs true false i j q d d' =
            val_opposite n x' g (meet_within k) r'.last r'.first (over x' r'.last d') (val x' r'.last d') x a' b' c' a b c (sym q)
            (record { fine = r'.a_ordered; past = r'.low }) (record { fine = r'.b_ordered; past = r'.high }) (record { fine = r'.c_ordered; past = r'.rest })
            (record { fine = r.a_ordered; past = omega (arith, r.low) }) (record { fine = r.b_ordered; past = omega (arith, r.high) }) (record { fine = r.c_ordered; past = omega (arith, r.rest) })
            j i
            ∙ and_swap (value (node x' a' b' c') g) (value (node x a b c) g)
        signs false true i j q d d' =
            val_opposite n x g (meet_within k) r.last r.first (over x r.last d) (val x r.last d) x' a b c a' b' c' q
            (record { fine = r.a_ordered; past = r.low }) (record { fine = r.b_ordered; past = r.high }) (record { fine = r.c_ordered; past = r.rest })
            (record { fine = r'.a_ordered; past = omega (arith, r'.low) }) (record { fine = r'.b_ordered; past = omega (arith, r'.high) }) (record { fine = r'.c_ordered; past = omega (arith, r'.rest) })
            i j
        signs false false i j q d d' =
            val_both_positive n x g (meet_within k) r.last r.first (over x r.last d) (val x r.last d) x' a b c a' b' c' q
            (record { fine = r.a_ordered; past = r.low }) (record { fine = r.b_ordered; past = r.high }) (record { fine = r.c_ordered; past = r.rest })
            (record { fine = r'.a_ordered; past = omega (arith, r'.low) }) (record { fine = r'.b_ordered; past = omega (arith, r'.high) }) (record { fine = r'.c_ordered; past = omega (arith, r'.rest) })
            i j

-- conjunction means conjunction
pub meet_within_value : (n k : ℕ) (g : Assignment) (s t : Diagram) → ordered n s ≡ true → ordered n t ≡ true → depth n s t < k
    → value (meet_within k s t).it g ≡ (value s g && value t g)
unfolding meet_within value
meet_within_value n zero g s t os ot h = absurd (not-suc-le-zero h)
meet_within_value n (suc k) g top top os ot h = refl
meet_within_value n (suc k) g top bottom os ot h = refl
meet_within_value n (suc k) g top (node x a b c) os ot h = refl
meet_within_value n (suc k) g bottom top os ot h = refl
meet_within_value n (suc k) g bottom bottom os ot h = refl
meet_within_value n (suc k) g bottom (node x a b c) os ot h = refl
meet_within_value n (suc k) g (node x a b c) top os ot h = sym (and_true _)
meet_within_value n (suc k) g (node x a b c) bottom os ot h = sym (and_false _)
meet_within_value n (suc k) g (node x a b c) (node x' a' b' c') os ot h = nodes_value n k g x a b c x' a' b' c' os ot h (meet_within_value n k g)

pub value_meet : (n : ℕ) (g : Assignment) (s t : Diagram) → ordered n s ≡ true → ordered n t ≡ true → value (meet n s t).it g ≡ (value s g && value t g)
unfolding meet
value_meet n g s t os ot = meet_within_value n (n + 1) g s t os ot (omega (arith, level_first n s os, level_first n t ot))
