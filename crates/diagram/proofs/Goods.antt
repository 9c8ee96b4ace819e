use Rattle.std.proofs.Common.{Some, None, Option, ◌≡◌, ℕ, zero, suc, ◌+◌, ◌-◌, ◌<◌, ◌≤◌, min, Bool, true, false, cond, ltb, ℤ, pos, neg_ℤ, nat_abs, refl, not-suc-le-zero, arith}
use lib.Signed.{lt_z}
use Rattle.std.proofs.lemmas.Bool.{ltb-true, ltb-false}
use Rattle.diagram.specs.Diagrams.{Diagram, top, bottom, node, level, ordered, Made}
use Rattle.diagram.specs.Rules.{Part, τ, -τ, plain, listed, signed, rule, apply, rewrite, negate, part, reduce}
use Rattle.diagram.specs.Meet.{meet_within, nodes_step, under, under_negative, under_positive, nand, without, minus, either, level_with, both_negative, both_positive, opposite}
use Rattle.diagram.specs.declared.rule.Rule.{Rule}
use Rattle.diagram.specs.declared.rule.Rule.TheVariants.{One, Two, Three, Four, Five, Six, Seven, Eight, Nine, Ten}
use Rattle.diagram.proofs.Rewrites.{Rising, rising, order, nat_abs_neg, reduce_level, negate_level}

-- ordered, with labels past x
pub record Over (n : ℕ) (x : ℤ) (d : Diagram) : Type 0 where
  pub fine : ordered n d ≡ true
  pub past : nat_abs x < level n d

record Both (n : ℕ) (x : ℤ) (p : Part) : Type 0 where
  plainly : Over n x p.it
  turned : Over n x p.negated.it

over_neg : (n : ℕ) (x : ℤ) (d : Diagram) → Over n x d → Over n (neg_ℤ x) d
over_neg n x d o = record { fine = o.fine; past = rw nat_abs_neg o.past }

both_neg : (n : ℕ) (x : ℤ) (p : Part) → Both n x p → Both n (neg_ℤ x) p
both_neg n x p b = record { plainly = over_neg n x p.it b.plainly; turned = over_neg n x p.negated.it b.turned }

pub over_leaf : (n : ℕ) (x : ℤ) → nat_abs x ≤ n → Over n x top × Over n x bottom
unfolding ordered
over_leaf n x l = (record { fine = refl; past = omega arith }, record { fine = refl; past = omega arith })

signed_fine : (n : ℕ) (x : ℤ) (p : Part) → Both n x p → ordered n (signed x p).it ≡ true
signed_fine n x p h = go (lt_z x (pos 0))
  where
    go : (b : Bool) → ordered n (cond b p.negated (record { it = p.it; formed = listed p.it })).it ≡ true
    go true = h.turned.fine
    go false = h.plainly.fine

stored_fine : (n : ℕ) (x : ℤ) (a b c : Diagram) → 0 < nat_abs x → nat_abs x ≤ n → Over n x a → Over n x b → Over n x c → ordered n (node x a b c) ≡ true
stored_fine n x a b c z l oa ob oc = order n x a b c (record { first = z; last = l; low = oa.past; high = ob.past; rest = oc.past; a_ordered = oa.fine; b_ordered = ob.fine; c_ordered = oc.fine })

rewrite_fine : (n k : ℕ) (x : ℤ) (a b c : Part) → 0 < nat_abs x → nat_abs x ≤ n → Both n x a → Both n x b → Both n x c → ordered n (rewrite k x a b c).it ≡ true
unfolding rewrite
rewrite_fine n zero x a b c z l ha hb hc = stored_fine n x _ _ _ z l ha.plainly hb.plainly hc.plainly
rewrite_fine n (suc k) x a b c z l ha hb hc = go (rule x a.it b.it c.it) (rewrite_fine n k)
  where
    t : Both n x τ
    t = record { plainly = (over_leaf n x l).0; turned = (over_leaf n x l).1 }

    f : Both n x -τ
    f = record { plainly = (over_leaf n x l).1; turned = (over_leaf n x l).0 }

    turn : (d e : Part) → ((x : ℤ) (a b c : Part) → 0 < nat_abs x → nat_abs x ≤ n → Both n x a → Both n x b → Both n x c → ordered n (rewrite k x a b c).it ≡ true)
        → Both n x d → Both n x e → ordered n (rewrite k (neg_ℤ x) d e τ).it ≡ true
    turn d e ih hd he = ih (neg_ℤ x) d e τ (rw nat_abs_neg z) (rw nat_abs_neg l) (both_neg n x d hd) (both_neg n x e he) (both_neg n x τ t)

    go : (r : Option Rule) → ((x : ℤ) (a b c : Part) → 0 < nat_abs x → nat_abs x ≤ n → Both n x a → Both n x b → Both n x c → ordered n (rewrite k x a b c).it ≡ true)
        → ordered n (apply r (rewrite k) x a b c).it ≡ true
    go (Some One) ih = signed_fine n x -τ f
    go (Some Two) ih = signed_fine n x -τ f
    go (Some Three) ih = signed_fine n x c hc
    go (Some Four) ih = signed_fine n x a ha
    go (Some Five) ih = ih x τ -τ a z l t f ha
    go (Some Six) ih = ih x -τ τ b z l f t hb
    go (Some Seven) ih = ih x a τ c z l ha t hc
    go (Some Eight) ih = ih x τ b c z l t hb hc
    go (Some Nine) ih = turn -τ (plain b.negated.it) ih f (record { plainly = hb.turned; turned = hb.turned })
    go (Some Ten) ih = turn (plain a.negated.it) -τ ih (record { plainly = ha.turned; turned = ha.turned }) f
    go None ih = stored_fine n x _ _ _ z l ha.plainly hb.plainly hc.plainly

-- a diagram over its own label, one less
pub negate_fine : (n : ℕ) (d : Diagram) → ordered n d ≡ true → ordered n (negate d).it ≡ true
unfolding negate ordered
negate_fine n top o = refl
negate_fine n bottom o = refl
negate_fine n (node x a b c) o =
    let r = rising n x a b c o in
    rewrite_fine n 6 (neg_ℤ x) (part a) (part b) (part c) (rw nat_abs_neg r.first) (rw nat_abs_neg r.last)
    (both_neg n x (part a) (record { plainly = record { fine = r.a_ordered; past = r.low }; turned = record { fine = negate_fine n a r.a_ordered; past = omega (arith, r.low, negate_level n a r.a_ordered) } }))
    (both_neg n x (part b) (record { plainly = record { fine = r.b_ordered; past = r.high }; turned = record { fine = negate_fine n b r.b_ordered; past = omega (arith, r.high, negate_level n b r.b_ordered) } }))
    (both_neg n x (part c) (record { plainly = record { fine = r.c_ordered; past = r.rest }; turned = record { fine = negate_fine n c r.c_ordered; past = omega (arith, r.rest, negate_level n c r.c_ordered) } }))

pub over_negate : (n : ℕ) (x : ℤ) (d : Diagram) → Over n x d → Over n x (negate d).it
over_negate n x d o = record { fine = negate_fine n d o.fine; past = omega (arith, o.past, negate_level n d o.fine) }

-- what a reduction over x gives
pub record Good (n : ℕ) (x : ℤ) (d : Diagram) : Type 0 where
  pub fine : ordered n d ≡ true
  pub past : nat_abs x ≤ level n d

pub good_reduce : (n : ℕ) (x : ℤ) (a b c : Diagram) → 0 < nat_abs x → nat_abs x ≤ n → Over n x a → Over n x b → Over n x c → Good n x (reduce x a b c).it
good_reduce n x a b c z l oa ob oc = record {
  fine = rewrite_fine n 6 x (part a) (part b) (part c) z l (both a oa) (both b ob) (both c oc);
  past = reduce_level n x a b c (stored_fine n x a b c z l oa ob oc);
}
  where
    both : (d : Diagram) → Over n x d → Both n x (part d)
    both d o = record { plainly = o; turned = over_negate n x d o }

-- the rules of conjunction at two nodes, where the conjunction of parts is known
module _ (n : ℕ) (x : ℤ) (f : Diagram → Diagram → Made) (z : 0 < nat_abs x) (l : nat_abs x ≤ n)
    (over_f : (s t : Diagram) → Over n x s → Over n x t → Over n x (f s t).it) where
  pub over_nand : (p q : Diagram) → Over n x p → Over n x q → Over n x (nand f p q).it
  unfolding nand
  over_nand p q op oq = over_negate n x _ (over_f _ _ op oq)

  pub over_without : (p t : Diagram) → Over n x p → Over n x t → Over n x (without f p t).it
  unfolding without
  over_without p t op ot = over_nand _ _ (over_negate n x p op) ot

  pub over_minus : (a p q : Diagram) → Over n x a → Over n x p → Over n x q → Over n x (minus f a p q).it
  unfolding minus
  over_minus a p q oa op oq = over_f _ _ oa (over_nand p q op oq)

  pub over_either : (a c p q : Diagram) → Over n x a → Over n x c → Over n x p → Over n x q → Over n x (either f a c p q).it
  unfolding either
  over_either a c p q oa oc op oq = over_nand _ _ (over_nand a c oa oc) (over_nand p q op oq)

  good_under : (v : Bool) (a b c t : Diagram) → Over n x a → Over n x b → Over n x c → Over n x t → Good n x (under f v x a b c t).it
  unfolding under_negative under_positive
  good_under true a b c t oa ob oc ot = good_reduce n x _ _ _ z l (over_without a t oa ot) (over_without b t ob ot) (over_without c t oc ot)
  good_under false a b c t oa ob oc ot = good_reduce n x _ _ _ z l oa ob (over_f _ _ oc ot)

  good_both_positive : (a b c a' b' c' : Diagram) → Over n x a → Over n x b → Over n x c → Over n x a' → Over n x b' → Over n x c' → Good n x (both_positive f x a b c a' b' c').it
  unfolding both_positive
  good_both_positive a b c a' b' c' oa ob oc oa' ob' oc' = good_reduce n x _ _ _ z l (over_f _ _ oa oa') (over_f _ _ ob ob') (over_f _ _ oc oc')

  good_both_negative : (a b c a' b' c' : Diagram) → Over n x a → Over n x b → Over n x c → Over n x a' → Over n x b' → Over n x c' → Good n x (both_negative f x a b c a' b' c').it
  unfolding both_negative
  good_both_negative a b c a' b' c' oa ob oc oa' ob' oc' =
      good_reduce n x _ _ _ z l (over_either a c a' c' oa oc oa' oc') (over_either b c b' c' ob oc ob' oc') (over_leaf n x l).0

  good_opposite : (a b c a' b' c' : Diagram) → Over n x a → Over n x b → Over n x c → Over n x a' → Over n x b' → Over n x c' → Good n x (opposite f x a b c a' b' c').it
  unfolding opposite
  good_opposite a b c a' b' c' oa ob oc oa' ob' oc' =
      good_reduce n x _ _ _ z l (over_minus a a' c' oa oa' oc') (over_minus b b' c' ob ob' oc') oc

-- what a conjunction gives
pub record Met (n : ℕ) (s t r : Diagram) : Type 0 where
  pub fine : ordered n r ≡ true
  pub past : min (level n s) (level n t) ≤ level n r

-- how deep the rules go
abbrev pub depth : ℕ → Diagram → Diagram → ℕ
depth n s t = n + 1 - min (level n s) (level n t)

-- the conjunction of what stands over x
pub over_met : (n k : ℕ) (x : ℤ) (f : Diagram → Diagram → Made) → nat_abs x ≤ n → n + 1 - nat_abs x ≤ k
    → ((s t : Diagram) → ordered n s ≡ true → ordered n t ≡ true → depth n s t < k → Met n s t (f s t).it)
    → (s t : Diagram) → Over n x s → Over n x t → Over n x (f s t).it
over_met n k x f l d ih s t os ot =
    let m = ih s t os.fine ot.fine (omega (arith, os.past, ot.past)) in
    record { fine = m.fine; past = omega (arith, os.past, ot.past, m.past) }

pub meet_good : (n k : ℕ) (s t : Diagram) → ordered n s ≡ true → ordered n t ≡ true → depth n s t < k → Met n s t (meet_within k s t).it
unfolding meet_within
meet_good n zero s t os ot h = absurd (not-suc-le-zero h)
meet_good n (suc k) top top os ot h = record { fine = os; past = omega arith }
meet_good n (suc k) top bottom os ot h = record { fine = ot; past = omega arith }
meet_good n (suc k) top (node x a b c) os ot h = record { fine = ot; past = omega arith }
meet_good n (suc k) bottom top os ot h = record { fine = os; past = omega arith }
meet_good n (suc k) bottom bottom os ot h = record { fine = os; past = omega arith }
meet_good n (suc k) bottom (node x a b c) os ot h = record { fine = os; past = omega arith }
meet_good n (suc k) (node x a b c) top os ot h = record { fine = os; past = omega arith }
meet_good n (suc k) (node x a b c) bottom os ot h = record { fine = ot; past = omega arith }
meet_good n (suc k) (node x a b c) (node x' a' b' c') os ot h =
    go (ltb (nat_abs x) (nat_abs x')) (ltb (nat_abs x') (nat_abs x)) refl refl (meet_good n k)
  where
    r : Rising n x a b c
    r = rising n x a b c os

    r' : Rising n x' a' b' c'
    r' = rising n x' a' b' c' ot

    from : (y : ℤ) (d : Diagram) → min (nat_abs x) (nat_abs x') ≤ nat_abs y → Good n y d → Met n (node x a b c) (node x' a' b' c') d
    from y d e g = record { fine = g.fine; past = omega (arith, g.past) }

    IH : Type 0
    IH = (s t : Diagram) → ordered n s ≡ true → ordered n t ≡ true → depth n s t < k → Met n s t (meet_within k s t).it

    over : (y : ℤ) → nat_abs y ≤ n → n + 1 - nat_abs y ≤ k → IH → (s t : Diagram) → Over n y s → Over n y t → Over n y (meet_within k s t).it
    over y l d ih = over_met n k y (meet_within k) l d ih

    go : (u v : Bool) → ltb (nat_abs x) (nat_abs x') ≡ u → ltb (nat_abs x') (nat_abs x) ≡ v → IH
        → Met n (node x a b c) (node x' a' b' c') (nodes_step (meet_within k) u v x a b c x' a' b' c').it
    go true v e e' ih =
        let lt = ltb-true (nat_abs x) (nat_abs x') e in
        from x _ (omega arith) (good_under n x (meet_within k) r.first r.last (over x r.last (omega (arith, h)) ih) (lt_z x (pos 0)) a b c (node x' a' b' c')
        (record { fine = r.a_ordered; past = r.low }) (record { fine = r.b_ordered; past = r.high }) (record { fine = r.c_ordered; past = r.rest }) (record { fine = ot; past = lt }))
    go false true e e' ih =
        let lt = ltb-true (nat_abs x') (nat_abs x) e' in
        from x' _ (omega arith) (good_under n x' (meet_within k) r'.first r'.last (over x' r'.last (omega (arith, h)) ih) (lt_z x' (pos 0)) a' b' c' (node x a b c)
        (record { fine = r'.a_ordered; past = r'.low }) (record { fine = r'.b_ordered; past = r'.high }) (record { fine = r'.c_ordered; past = r'.rest }) (record { fine = os; past = lt }))
    go false false e e' ih = signs (lt_z x (pos 0)) (lt_z x' (pos 0)) (ltb-false (nat_abs x) (nat_abs x') e) (ltb-false (nat_abs x') (nat_abs x) e')
      where
        signs : (u v : Bool) → nat_abs x' ≤ nat_abs x → nat_abs x ≤ nat_abs x' → Met n (node x a b c) (node x' a' b' c') (level_with (meet_within k) u v x a b c x' a' b' c').it
        signs true true p q = from x _ (omega arith) (good_both_negative n x (meet_within k) r.first r.last (over x r.last (omega (arith, h)) ih) a b c a' b' c'
            (record { fine = r.a_ordered; past = r.low }) (record { fine = r.b_ordered; past = r.high }) (record { fine = r.c_ordered; past = r.rest })
            (record { fine = r'.a_ordered; past = omega (arith, r'.low) }) (record { fine = r'.b_ordered; past = omega (arith, r'.high) }) (record { fine = r'.c_ordered; past = omega (arith, r'.rest) }))
        signs false false p q = from x _ (omega arith) (good_both_positive n x (meet_within k) r.first r.last (over x r.last (omega (arith, h)) ih) a b c a' b' c'
            (record { fine = r.a_ordered; past = r.low }) (record { fine = r.b_ordered; past = r.high }) (record { fine = r.c_ordered; past = r.rest })
            (record { fine = r'.a_ordered; past = omega (arith, r'.low) }) (record { fine = r'.b_ordered; past = omega (arith, r'.high) }) (record { fine = r'.c_ordered; past = omega (arith, r'.rest) }))
        signs false true p q = from x _ (omega arith) (good_opposite n x (meet_within k) r.first r.last (over x r.last (omega (arith, h)) ih) a b c a' b' c'
            (record { fine = r.a_ordered; past = r.low }) (record { fine = r.b_ordered; past = r.high }) (record { fine = r.c_ordered; past = r.rest })
            (record { fine = r'.a_ordered; past = omega (arith, r'.low) }) (record { fine = r'.b_ordered; past = omega (arith, r'.high) }) (record { fine = r'.c_ordered; past = omega (arith, r'.rest) }))
        signs true false p q = from x' _ (omega arith) (good_opposite n x' (meet_within k) r'.first r'.last (over x' r'.last (omega (arith, h)) ih) a' b' c' a b c
            (record { fine = r'.a_ordered; past = r'.low }) (record { fine = r'.b_ordered; past = r'.high }) (record { fine = r'.c_ordered; past = r'.rest })
            (record { fine = r.a_ordered; past = omega (arith, r.low) }) (record { fine = r.b_ordered; past = omega (arith, r.high) }) (record { fine = r.c_ordered; past = omega (arith, r.rest) }))
