pub use Rattle.diagram.specs.Shapes.{Deep}
use Rattle.std.proofs.Common.{◌≡◌, ℕ, zero, suc, ◌+◌, ◌-◌, ◌<◌, ◌≤◌, Bool, true, false, eqb, ltb, ℤ, pos, nat_abs, refl, subst, not-suc-le-zero, arith}
use lib.Signed.{lt_z}
use Rattle.std.proofs.lemmas.Bool.{ltb-true, ltb-false}
use Rattle.diagram.specs.Diagrams.{Diagram, top, bottom, node, level, ordered, Made}
use Rattle.diagram.specs.Rules.{negate}
use Rattle.diagram.specs.Fix.{turn, fix_here, fix_parts, fix_node, fix}
use Rattle.diagram.specs.Meet.{meet, meet_within, meet_step, nodes_step, under, under_negative, under_positive, nand, without, minus, either, level_with, both_negative, both_positive, opposite}
use Rattle.diagram.proofs.Rewrites.{Rising, rising, negate_level}
use Rattle.diagram.proofs.Goods.{Over, over_negate, over_met, depth, meet_good, negate_fine, good_reduce, Met}

module _ (n : ℕ) (x : ℤ) (f g : Diagram → Diagram → Made)
    (over_f : (s t : Diagram) → Over n x s → Over n x t → Over n x (f s t).it)
    (same_f : (s t : Diagram) → Over n x s → Over n x t → f s t ≡ g s t) where
  over_g : (s t : Diagram) → Over n x s → Over n x t → Over n x (g s t).it
  over_g s t os ot = subst (λ (m : Made). Over n x m.it) (same_f s t os ot) (over_f s t os ot)

  over_nand_g : (p q : Diagram) → Over n x p → Over n x q → Over n x (nand g p q).it
  unfolding nand
  over_nand_g p q op oq = over_negate n x _ (over_g p q op oq)

  nand_same : (p q : Diagram) → Over n x p → Over n x q → nand f p q ≡ nand g p q
  unfolding nand
  nand_same p q op oq = let e = same_f p q op oq in simp e

  without_same : (p t : Diagram) → Over n x p → Over n x t → without f p t ≡ without g p t
  unfolding without
  without_same p t op ot = let e = nand_same _ t (over_negate n x p op) ot in simp e

  minus_same : (a p q : Diagram) → Over n x a → Over n x p → Over n x q → minus f a p q ≡ minus g a p q
  unfolding minus
  minus_same a p q oa op oq =
      let e = nand_same p q op oq in
      let e' = same_f a _ oa (over_nand_g p q op oq) in
      simp (e, e')

  either_same : (a c p q : Diagram) → Over n x a → Over n x c → Over n x p → Over n x q → either f a c p q ≡ either g a c p q
  unfolding either
  either_same a c p q oa oc op oq =
      let e = nand_same a c oa oc in
      let e' = nand_same p q op oq in
      let e'' = nand_same _ _ (over_nand_g a c oa oc) (over_nand_g p q op oq) in
      simp (e, e', e'')

  under_same : (v : Bool) (a b c t : Diagram) → Over n x a → Over n x b → Over n x c → Over n x t → under f v x a b c t ≡ under g v x a b c t
  unfolding under_negative under_positive
  under_same true a b c t oa ob oc ot =
      let ea = without_same a t oa ot in
      let eb = without_same b t ob ot in
      let ec = without_same c t oc ot in
      simp (ea, eb, ec)
  under_same false a b c t oa ob oc ot = let ec = same_f c t oc ot in simp ec

  positive_same : (a b c a' b' c' : Diagram) → Over n x a → Over n x b → Over n x c → Over n x a' → Over n x b' → Over n x c' → both_positive f x a b c a' b' c' ≡ both_positive g x a b c a' b' c'
  unfolding both_positive
  positive_same a b c a' b' c' oa ob oc oa' ob' oc' =
      let ea = same_f a a' oa oa' in
      let eb = same_f b b' ob ob' in
      let ec = same_f c c' oc oc' in
      simp (ea, eb, ec)

  negative_same : (a b c a' b' c' : Diagram) → Over n x a → Over n x b → Over n x c → Over n x a' → Over n x b' → Over n x c' → both_negative f x a b c a' b' c' ≡ both_negative g x a b c a' b' c'
  unfolding both_negative
  negative_same a b c a' b' c' oa ob oc oa' ob' oc' =
      let e1 = either_same a c a' c' oa oc oa' oc' in
      let e2 = either_same b c b' c' ob oc ob' oc' in
      simp (e1, e2)

  opposite_same : (a b c a' b' c' : Diagram) → Over n x a → Over n x b → Over n x c → Over n x a' → Over n x b' → Over n x c' → opposite f x a b c a' b' c' ≡ opposite g x a b c a' b' c'
  unfolding opposite
  opposite_same a b c a' b' c' oa ob oc oa' ob' oc' =
      let e1 = minus_same a a' c' oa oa' oc' in
      let e2 = minus_same b b' c' ob ob' oc' in
      simp (e1, e2)

-- more depth than the labels leave changes nothing
pub deep_enough : (n k : ℕ) (s t : Diagram) → ordered n s ≡ true → ordered n t ≡ true → depth n s t < k → meet_within k s t ≡ meet_within (suc k) s t
unfolding meet_within
deep_enough n zero s t os ot h = absurd (not-suc-le-zero h)
deep_enough n (suc k) top top os ot h = refl
deep_enough n (suc k) top bottom os ot h = refl
deep_enough n (suc k) top (node x a b c) os ot h = refl
deep_enough n (suc k) bottom top os ot h = refl
deep_enough n (suc k) bottom bottom os ot h = refl
deep_enough n (suc k) bottom (node x a b c) os ot h = refl
deep_enough n (suc k) (node x a b c) top os ot h = refl
deep_enough n (suc k) (node x a b c) bottom os ot h = refl
deep_enough n (suc k) (node x a b c) (node x' a' b' c') os ot h =
    nodes_same n k (meet_within k) (meet_within (suc k)) (meet_good n k) (deep_enough n k) x a b c x' a' b' c' os ot h
  where
    nodes_same : (n k : ℕ) (f g : Diagram → Diagram → Made)
        → ((s t : Diagram) → ordered n s ≡ true → ordered n t ≡ true → depth n s t < k → Met n s t (f s t).it)
        → ((s t : Diagram) → ordered n s ≡ true → ordered n t ≡ true → depth n s t < k → f s t ≡ g s t)
        → (x : ℤ) (a b c : Diagram) (x' : ℤ) (a' b' c' : Diagram) → ordered n (node x a b c) ≡ true → ordered n (node x' a' b' c') ≡ true
        → depth n (node x a b c) (node x' a' b' c') < suc k → meet_step f (node x a b c) (node x' a' b' c') ≡ meet_step g (node x a b c) (node x' a' b' c')
    nodes_same n k f g good ih x a b c x' a' b' c' os ot h = go (ltb (nat_abs x) (nat_abs x')) (ltb (nat_abs x') (nat_abs x)) refl refl
      where
        r : Rising n x a b c
        r = rising n x a b c os

        r' : Rising n x' a' b' c'
        r' = rising n x' a' b' c' ot

        over : (y : ℤ) → nat_abs y ≤ n → n + 1 - nat_abs y ≤ k → (s t : Diagram) → Over n y s → Over n y t → Over n y (f s t).it
        over y l d = over_met n k y f l d good

        same : (y : ℤ) → nat_abs y ≤ n → n + 1 - nat_abs y ≤ k → (s t : Diagram) → Over n y s → Over n y t → f s t ≡ g s t
        same y l d s t p q = ih s t p.fine q.fine (omega (arith, p.past, q.past))

        go : (u v : Bool) → ltb (nat_abs x) (nat_abs x') ≡ u → ltb (nat_abs x') (nat_abs x) ≡ v
            → nodes_step f u v x a b c x' a' b' c' ≡ nodes_step g u v x a b c x' a' b' c'
        go true v e e' =
            let lt = ltb-true (nat_abs x) (nat_abs x') e in
            let d : n + 1 - nat_abs x ≤ k = omega (arith, h) in
            under_same n x f g (over x r.last d) (same x r.last d) (lt_z x (pos 0)) a b c (node x' a' b' c')
            (record { fine = r.a_ordered; past = r.low }) (record { fine = r.b_ordered; past = r.high }) (record { fine = r.c_ordered; past = r.rest }) (record { fine = ot; past = lt })
        go false true e e' =
            let lt = ltb-true (nat_abs x') (nat_abs x) e' in
            let d : n + 1 - nat_abs x' ≤ k = omega (arith, h) in
            under_same n x' f g (over x' r'.last d) (same x' r'.last d) (lt_z x' (pos 0)) a' b' c' (node x a b c)
            (record { fine = r'.a_ordered; past = r'.low }) (record { fine = r'.b_ordered; past = r'.high }) (record { fine = r'.c_ordered; past = r'.rest }) (record { fine = os; past = lt })
        go false false e e' = signs (lt_z x (pos 0)) (lt_z x' (pos 0)) (ltb-false (nat_abs x) (nat_abs x') e) (ltb-false (nat_abs x') (nat_abs x) e')
          where
            signs : (u v : Bool) → nat_abs x' ≤ nat_abs x → nat_abs x ≤ nat_abs x' → level_with f u v x a b c x' a' b' c' ≡ level_with g u v x a b c x' a' b' c'
            signs true true p q = negative_same n x f g (over x r.last (omega (arith, h))) (same x r.last (omega (arith, h))) a b c a' b' c'
                (record { fine = r.a_ordered; past = r.low }) (record { fine = r.b_ordered; past = r.high }) (record { fine = r.c_ordered; past = r.rest })
                (record { fine = r'.a_ordered; past = omega (arith, r'.low) }) (record { fine = r'.b_ordered; past = omega (arith, r'.high) }) (record { fine = r'.c_ordered; past = omega (arith, r'.rest) })
            signs false false p q = positive_same n x f g (over x r.last (omega (arith, h))) (same x r.last (omega (arith, h))) a b c a' b' c'
                (record { fine = r.a_ordered; past = r.low }) (record { fine = r.b_ordered; past = r.high }) (record { fine = r.c_ordered; past = r.rest })
                (record { fine = r'.a_ordered; past = omega (arith, r'.low) }) (record { fine = r'.b_ordered; past = omega (arith, r'.high) }) (record { fine = r'.c_ordered; past = omega (arith, r'.rest) })
            signs false true p q = opposite_same n x f g (over x r.last (omega (arith, h))) (same x r.last (omega (arith, h))) a b c a' b' c'
                (record { fine = r.a_ordered; past = r.low }) (record { fine = r.b_ordered; past = r.high }) (record { fine = r.c_ordered; past = r.rest })
                (record { fine = r'.a_ordered; past = omega (arith, r'.low) }) (record { fine = r'.b_ordered; past = omega (arith, r'.high) }) (record { fine = r'.c_ordered; past = omega (arith, r'.rest) })
            signs true false p q = opposite_same n x' f g (over x' r'.last (omega (arith, h))) (same x' r'.last (omega (arith, h))) a' b' c' a b c
                (record { fine = r'.a_ordered; past = r'.low }) (record { fine = r'.b_ordered; past = r'.high }) (record { fine = r'.c_ordered; past = r'.rest })
                (record { fine = r.a_ordered; past = omega (arith, r.low) }) (record { fine = r.b_ordered; past = omega (arith, r.high) }) (record { fine = r.c_ordered; past = omega (arith, r.rest) })

pub level_first : (n : ℕ) (d : Diagram) → ordered n d ≡ true → 0 < level n d
level_first n top o = omega arith
level_first n bottom o = omega arith
level_first n (node x a b c) o = (rising n x a b c o).first

-- the rules of conjunction as an equation
pub meet_law : (n : ℕ) (s t : Diagram) → ordered n s ≡ true → ordered n t ≡ true → meet n s t ≡ meet_step (meet n) s t
unfolding meet meet_within
meet_law n s t os ot = deep_enough n (n + 1) s t os ot (omega (arith, level_first n s os, level_first n t ot))

pub deep_negate : (n y : ℕ) (d : Diagram) → Deep n y d → Deep n y (negate d).it
deep_negate n y d o = record { fine = negate_fine n d o.fine; past = omega (arith, o.past, negate_level n d o.fine) }

pub deep_meet : (n y : ℕ) (d e : Diagram) → Deep n y d → Deep n y e → Deep n y (meet n d e).it
unfolding meet
deep_meet n y d e p q =
    let m : Met n d e (meet_within (n + 1) d e).it = meet_good n (n + 1) d e p.fine q.fine (omega (arith, level_first n d p.fine, level_first n e q.fine)) in
    record { fine = m.fine; past = omega (arith, m.past, p.past, q.past) }

-- what a variable held gives
pub deep_turn : (n y : ℕ) (negative : Bool) (d : Diagram) → Deep n y d → Deep n y (turn negative d).it
deep_turn n y true d o = deep_negate n y d o
deep_turn n y false d o = o

pub deep_fix_here : (n y : ℕ) (negative : Bool) (h c : Diagram) → Deep n y h → Deep n y c → Deep n y (fix_here n negative h c).it
unfolding fix_here
deep_fix_here n y negative h c p q = deep_turn n y negative _ (deep_meet n y h c p q)

pub fix_fine : (n v : ℕ) (bit : Bool) (d : Diagram) → ordered n d ≡ true → Deep n (level n d) (fix n v bit d).it
unfolding fix
fix_fine n v bit top o = record { fine = o; past = omega arith }
fix_fine n v bit bottom o = record { fine = o; past = omega arith }
fix_fine n v bit (node x a b c) o =
    go (eqb (nat_abs x) v) bit (fix n v bit a) (fix n v bit b) (fix n v bit c) (fix_fine n v bit a r.a_ordered) (fix_fine n v bit b r.b_ordered) (fix_fine n v bit c r.c_ordered)
  where
    r : Rising n x a b c
    r = rising n x a b c o

    less : (d : Diagram) → Deep n (nat_abs x + 1) d → Deep n (nat_abs x) d
    less d p = record { fine = p.fine; past = omega (arith, p.past) }

    over : (d e : Diagram) → nat_abs x < level n d → Deep n (level n d) e → Over n x e
    over d e l p = record { fine = p.fine; past = omega (arith, p.past) }

    half : (d : Diagram) → ordered n d ≡ true → nat_abs x < level n d → Deep n (nat_abs x + 1) d
    half d f l = record { fine = f; past = omega arith }

    here : (d : Diagram) → ordered n d ≡ true → nat_abs x < level n d → Deep n (nat_abs x) (fix_here n (lt_z x (pos 0)) d c).it
    here d f l = less _ (deep_fix_here n (nat_abs x + 1) (lt_z x (pos 0)) d c (half d f l) (half c r.c_ordered r.rest))

    go : (e t : Bool) (fa fb fc : Made) → Deep n (level n a) fa.it → Deep n (level n b) fb.it → Deep n (level n c) fc.it
        → Deep n (nat_abs x) (fix_node n e t x a b c fa fb fc).it
    go true false fa fb fc da db dc = here a r.a_ordered r.low
    go true true fa fb fc da db dc = here b r.b_ordered r.high
    go false t fa fb fc da db dc =
        let g = good_reduce n x fa.it fb.it fc.it r.first r.last (over a _ r.low da) (over b _ r.high db) (over c _ r.rest dc) in
        unfold fix_parts in record { fine = g.fine; past = g.past }

pub deep_nand : (n y : ℕ) (d e : Diagram) → Deep n y d → Deep n y e → Deep n y (nand (meet n) d e).it
unfolding nand
deep_nand n y d e p q = deep_negate n y _ (deep_meet n y d e p q)

pub deep_without : (n y : ℕ) (d e : Diagram) → Deep n y d → Deep n y e → Deep n y (without (meet n) d e).it
unfolding without
deep_without n y d e p q = deep_nand n y _ e (deep_negate n y d p) q

pub deep_minus : (n y : ℕ) (a d e : Diagram) → Deep n y a → Deep n y d → Deep n y e → Deep n y (minus (meet n) a d e).it
unfolding minus
deep_minus n y a d e o p q = deep_meet n y a _ o (deep_nand n y d e p q)

pub deep_either : (n y : ℕ) (a c d e : Diagram) → Deep n y a → Deep n y c → Deep n y d → Deep n y e → Deep n y (either (meet n) a c d e).it
unfolding either
deep_either n y a c d e o o' p q = deep_nand n y _ _ (deep_nand n y a c o o') (deep_nand n y d e p q)

pub deep_fix : (n v y : ℕ) (bit : Bool) (d : Diagram) → Deep n y d → Deep n y (fix n v bit d).it
deep_fix n v y bit d p = let f = fix_fine n v bit d p.fine in record { fine = f.fine; past = omega (arith, p.past, f.past) }
