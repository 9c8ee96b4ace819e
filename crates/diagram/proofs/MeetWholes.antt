-- Conjunction, fixing, forall and empty give and form ordered and reduced diagrams.
use Rattle.std.proofs.Common.{◌≡◌, ℕ, zero, suc, ◌+◌, ◌-◌, ◌<◌, ◌≤◌, Bool, true, false, eqb, ltb, ℤ, pos, nat_abs, sym, refl, not-suc-le-zero, arith}
use lib.Signed.{lt_z}
use Rattle.std.proofs.lemmas.Bool.{ltb-true, ltb-false}
use Rattle.diagram.specs.Diagrams.{Diagram, top, bottom, node, ordered, Made}
use Rattle.diagram.specs.Rules.{after, negate, reduce}
use Rattle.diagram.specs.Meet.{meet, meet_within, nodes_step, under, under_negative, under_positive, nand, without, minus, either, level_with, both_negative, both_positive, opposite, done}
use Rattle.diagram.specs.Fix.{turn, fix_here, fix_parts, fix_node, fix, forall, foralls, emptied}
use Rattle.diagram.specs.Reduced.{reduced, all_proper}
use Rattle.diagram.specs.Shapes.{Whole, Well}
use Rattle.diagram.proofs.Rewrites.{rising}
use Rattle.diagram.proofs.Goods.{depth}
use Rattle.diagram.proofs.Laws.{level_first}
use Rattle.diagram.proofs.Wholes.{all_append, reduced_parts, well_negate, well_reduce}

-- one operation after another
pub well_then : {n y : ℕ} {m' : Made} (m : Made) → all_proper n m.formed ≡ true → Well n y m' → Well n y (after m.formed m')
well_then {n} {y} {m'} m p q = record { whole = q.whole; all = all_append n m.formed m'.formed p q.all }

pub well_done : {n y : ℕ} {d : Diagram} → Whole n y d → Well n y (done d)
unfolding all_proper
well_done w = record { whole = w; all = refl }

pub whole_leaf : (n y : ℕ) → y ≤ n + 1 → Whole n y top × Whole n y bottom
unfolding ordered reduced
whole_leaf n y l = (record { deep = record { fine = refl; past = l }; rests = refl }, record { deep = record { fine = refl; past = l }; rests = refl })

lower : {n y z : ℕ} {m : Made} → z ≤ y → Well n y m → Well n z m
lower l w = record { whole = record { deep = record { fine = w.whole.deep.fine; past = omega (arith, w.whole.deep.past) }; rests = w.whole.rests }; all = w.all }

-- the parts of a node, past its label
record Halves (n : ℕ) (x : ℤ) (a b c : Diagram) : Type 0 where
  first : 0 < nat_abs x
  last : nat_abs x ≤ n
  low : Whole n (nat_abs x + 1) a
  high : Whole n (nat_abs x + 1) b
  rest : Whole n (nat_abs x + 1) c

halves : (n : ℕ) (x : ℤ) (a b c : Diagram) → ordered n (node x a b c) ≡ true → reduced (node x a b c) ≡ true → Halves n x a b c
halves n x a b c o e =
    let r = rising n x a b c o in
    let p = reduced_parts x a b c e in
    record {
      first = r.first;
      last = r.last;
      low = record { deep = record { fine = r.a_ordered; past = omega (arith, r.low) }; rests = p.low };
      high = record { deep = record { fine = r.b_ordered; past = omega (arith, r.high) }; rests = p.high };
      rest = record { deep = record { fine = r.c_ordered; past = omega (arith, r.rest) }; rests = p.rest };
    }

-- the rules of conjunction at two nodes, where the conjunction of parts is known
module _ (n : ℕ) (x : ℤ) (f : Diagram → Diagram → Made) (z : 0 < nat_abs x) (l : nat_abs x ≤ n)
    (well_f : (s t : Diagram) → Whole n (nat_abs x + 1) s → Whole n (nat_abs x + 1) t → Well n (nat_abs x + 1) (f s t)) where
  well_nand : (p q : Diagram) → Whole n (nat_abs x + 1) p → Whole n (nat_abs x + 1) q → Well n (nat_abs x + 1) (nand f p q)
  unfolding nand
  well_nand p q wp wq = let m = well_f p q wp wq in well_then (f p q) m.all (well_negate n (nat_abs x + 1) (f p q).it m.whole)

  well_without : (p t : Diagram) → Whole n (nat_abs x + 1) p → Whole n (nat_abs x + 1) t → Well n (nat_abs x + 1) (without f p t)
  unfolding without
  well_without p t wp wt = let m = well_negate n (nat_abs x + 1) p wp in well_then (negate p) m.all (well_nand (negate p).it t m.whole wt)

  well_minus : (a p q : Diagram) → Whole n (nat_abs x + 1) a → Whole n (nat_abs x + 1) p → Whole n (nat_abs x + 1) q → Well n (nat_abs x + 1) (minus f a p q)
  unfolding minus
  well_minus a p q wa wp wq = let m = well_nand p q wp wq in well_then (nand f p q) m.all (well_f a (nand f p q).it wa m.whole)

  well_either : (a c p q : Diagram) → Whole n (nat_abs x + 1) a → Whole n (nat_abs x + 1) c → Whole n (nat_abs x + 1) p → Whole n (nat_abs x + 1) q
      → Well n (nat_abs x + 1) (either f a c p q)
  unfolding either
  well_either a c p q wa wc wp wq =
      let u = well_nand a c wa wc in
      let v = well_nand p q wp wq in
      well_then (nand f a c) u.all (well_then (nand f p q) v.all (well_nand (nand f a c).it (nand f p q).it u.whole v.whole))

  -- three parts, one after the other, and reduced
  well_three : (ma mb mc : Made) → Well n (nat_abs x + 1) ma → Well n (nat_abs x + 1) mb → Well n (nat_abs x + 1) mc
      → Well n (nat_abs x) (after ma.formed (after mb.formed (after mc.formed (reduce x ma.it mb.it mc.it))))
  well_three ma mb mc wa wb wc =
      well_then ma wa.all (well_then mb wb.all (well_then mc wc.all (well_reduce n x ma.it mb.it mc.it z l wa.whole wb.whole wc.whole)))

  well_two : (ma mb : Made) (c : Diagram) → Well n (nat_abs x + 1) ma → Well n (nat_abs x + 1) mb → Whole n (nat_abs x + 1) c
      → Well n (nat_abs x) (after ma.formed (after mb.formed (reduce x ma.it mb.it c)))
  well_two ma mb c wa wb wc = well_then ma wa.all (well_then mb wb.all (well_reduce n x ma.it mb.it c z l wa.whole wb.whole wc))

  well_under : (v : Bool) (a b c t : Diagram) → Halves n x a b c → Whole n (nat_abs x + 1) t → Well n (nat_abs x) (under f v x a b c t)
  unfolding under_negative under_positive
  well_under true a b c t h wt =
      well_three (without f a t) (without f b t) (without f c t) (well_without a t h.low wt) (well_without b t h.high wt) (well_without c t h.rest wt)
  well_under false a b c t h wt =
      let m = well_f c t h.rest wt in
      well_then (f c t) m.all (well_reduce n x a b (f c t).it z l h.low h.high m.whole)

  module _ (a b c a' b' c' : Diagram) (h : Halves n x a b c) (low' : Whole n (nat_abs x + 1) a') (high' : Whole n (nat_abs x + 1) b') (rest' : Whole n (nat_abs x + 1) c') where
    well_both_positive : Well n (nat_abs x) (both_positive f x a b c a' b' c')
    unfolding both_positive
    well_both_positive = well_three (f a a') (f b b') (f c c') (well_f a a' h.low low') (well_f b b' h.high high') (well_f c c' h.rest rest')

    well_both_negative : Well n (nat_abs x) (both_negative f x a b c a' b' c')
    unfolding both_negative
    well_both_negative =
        well_two (either f a c a' c') (either f b c b' c') top (well_either a c a' c' h.low h.rest low' rest') (well_either b c b' c' h.high h.rest high' rest')
        (whole_leaf n (nat_abs x + 1) (omega arith)).0

    well_opposite : Well n (nat_abs x) (opposite f x a b c a' b' c')
    unfolding opposite
    well_opposite = well_two (minus f a a' c') (minus f b b' c') c (well_minus a a' c' h.low low' rest') (well_minus b b' c' h.high high' rest') h.rest

-- conjunction, at most k deep
well_within : (n k y : ℕ) (s t : Diagram) → Whole n y s → Whole n y t → depth n s t < k → Well n y (meet_within k s t)
unfolding meet_within
well_within n zero y s t ws wt h = absurd (not-suc-le-zero h)
well_within n (suc k) y top top ws wt h = well_done ws
well_within n (suc k) y top bottom ws wt h = well_done wt
well_within n (suc k) y top (node x a b c) ws wt h = well_done wt
well_within n (suc k) y bottom top ws wt h = well_done ws
well_within n (suc k) y bottom bottom ws wt h = well_done ws
well_within n (suc k) y bottom (node x a b c) ws wt h = well_done ws
well_within n (suc k) y (node x a b c) top ws wt h = well_done ws
well_within n (suc k) y (node x a b c) bottom ws wt h = well_done wt
well_within n (suc k) y (node x a b c) (node x' a' b' c') ws wt h =
    go (ltb (nat_abs x) (nat_abs x')) (ltb (nat_abs x') (nat_abs x)) refl refl (well_within n k)
  where
    r : Halves n x a b c
    r = halves n x a b c ws.deep.fine ws.rests

    r' : Halves n x' a' b' c'
    r' = halves n x' a' b' c' wt.deep.fine wt.rests

    IH : Type 0
    IH = (y : ℕ) (s t : Diagram) → Whole n y s → Whole n y t → depth n s t < k → Well n y (meet_within k s t)

    sub : (w : ℤ) → nat_abs w ≤ n → n + 1 - nat_abs w ≤ k → IH → (s t : Diagram) → Whole n (nat_abs w + 1) s → Whole n (nat_abs w + 1) t → Well n (nat_abs w + 1) (meet_within k s t)
    sub w l d ih s t os ot = ih (nat_abs w + 1) s t os ot (omega (arith, os.deep.past, ot.deep.past))

    moved : (w w' : ℤ) (d : Diagram) → nat_abs w' ≡ nat_abs w → Whole n (nat_abs w' + 1) d → Whole n (nat_abs w + 1) d
    moved w w' d e o = record { deep = record { fine = o.deep.fine; past = omega (arith, o.deep.past) }; rests = o.rests }

    go : (u v : Bool) → ltb (nat_abs x) (nat_abs x') ≡ u → ltb (nat_abs x') (nat_abs x) ≡ v → IH → Well n y (nodes_step (meet_within k) u v x a b c x' a' b' c')
    go true v e e' ih =
        let lt = ltb-true (nat_abs x) (nat_abs x') e in
        lower ws.deep.past (well_under n x (meet_within k) r.first r.last (sub x r.last (omega (arith, h)) ih) (lt_z x (pos 0)) a b c (node x' a' b' c') r
        (record { deep = record { fine = wt.deep.fine; past = omega arith }; rests = wt.rests }))
    go false true e e' ih =
        let lt = ltb-true (nat_abs x') (nat_abs x) e' in
        lower wt.deep.past (well_under n x' (meet_within k) r'.first r'.last (sub x' r'.last (omega (arith, h)) ih) (lt_z x' (pos 0)) a' b' c' (node x a b c) r'
        (record { deep = record { fine = ws.deep.fine; past = omega arith }; rests = ws.rests }))
    go false false e e' ih =
        let p = ltb-false (nat_abs x) (nat_abs x') e in
        let p' = ltb-false (nat_abs x') (nat_abs x) e' in
        signs (lt_z x (pos 0)) (lt_z x' (pos 0)) (omega arith) (omega (arith, h)) (omega (arith, h))
      where
        signs : (u v : Bool) → nat_abs x' ≡ nat_abs x → n + 1 - nat_abs x ≤ k → n + 1 - nat_abs x' ≤ k → Well n y (level_with (meet_within k) u v x a b c x' a' b' c')
        signs true true q d d' =
            lower ws.deep.past (well_both_negative n x (meet_within k) r.first r.last (sub x r.last d ih) a b c a' b' c' r (moved x x' a' q r'.low) (moved x x' b' q r'.high) (moved x x' c' q r'.rest))
        signs true false q d d' =
            lower wt.deep.past (well_opposite n x' (meet_within k) r'.first r'.last (sub x' r'.last d' ih) a' b' c' a b c r' (moved x' x a (sym q) r.low) (moved x' x b (sym q) r.high) (moved x' x c (sym q) r.rest))
        signs false true q d d' =
            lower ws.deep.past (well_opposite n x (meet_within k) r.first r.last (sub x r.last d ih) a b c a' b' c' r (moved x x' a' q r'.low) (moved x x' b' q r'.high) (moved x x' c' q r'.rest))
        signs false false q d d' =
            lower ws.deep.past (well_both_positive n x (meet_within k) r.first r.last (sub x r.last d ih) a b c a' b' c' r (moved x x' a' q r'.low) (moved x x' b' q r'.high) (moved x x' c' q r'.rest))

pub well_meet : (n y : ℕ) (s t : Diagram) → Whole n y s → Whole n y t → Well n y (meet n s t)
unfolding meet
well_meet n y s t ws wt = well_within n (n + 1) y s t ws wt (omega (arith, level_first n s ws.deep.fine, level_first n t wt.deep.fine))

-- a variable held
well_turn : (n y : ℕ) (negative : Bool) (d : Diagram) → Whole n y d → Well n y (turn negative d)
well_turn n y true d w = well_negate n y d w
well_turn n y false d w = well_done w

pub well_fix_here : (n y : ℕ) (negative : Bool) (h c : Diagram) → Whole n y h → Whole n y c → Well n y (fix_here n negative h c)
unfolding fix_here
well_fix_here n y negative h c wh wc = let m = well_meet n y h c wh wc in well_then (meet n h c) m.all (well_turn n y negative (meet n h c).it m.whole)

pub well_fix : (n v y : ℕ) (bit : Bool) (d : Diagram) → Whole n y d → Well n y (fix n v bit d)
unfolding fix fix_parts
well_fix n v y bit top w = well_done w
well_fix n v y bit bottom w = well_done w
well_fix n v y bit (node x a b c) w =
    lower w.deep.past
    (go (eqb (nat_abs x) v) bit (fix n v bit a) (fix n v bit b) (fix n v bit c) (well_fix n v (nat_abs x + 1) bit a r.low) (well_fix n v (nat_abs x + 1) bit b r.high) (well_fix n v (nat_abs x + 1) bit c r.rest))
  where
    r : Halves n x a b c
    r = halves n x a b c w.deep.fine w.rests

    go : (e k : Bool) (fa fb fc : Made) → Well n (nat_abs x + 1) fa → Well n (nat_abs x + 1) fb → Well n (nat_abs x + 1) fc → Well n (nat_abs x) (fix_node n e k x a b c fa fb fc)
    go true false fa fb fc wa wb wc = lower (omega arith) (well_fix_here n (nat_abs x + 1) (lt_z x (pos 0)) a c r.low r.rest)
    go true true fa fb fc wa wb wc = lower (omega arith) (well_fix_here n (nat_abs x + 1) (lt_z x (pos 0)) b c r.high r.rest)
    go false k fa fb fc wa wb wc =
        well_then fa wa.all (well_then fb wb.all (well_then fc wc.all (well_reduce n x fa.it fb.it fc.it r.first r.last wa.whole wb.whole wc.whole)))

pub well_forall : (n v y : ℕ) (d : Diagram) → Whole n y d → Well n y (forall n v d)
unfolding forall
well_forall n v y d w =
    let l = well_fix n v y false d w in
    let h = well_fix n v y true d w in
    well_then (fix n v false d) l.all (well_then (fix n v true d) h.all (well_meet n y (fix n v false d).it (fix n v true d).it l.whole h.whole))

pub well_foralls : (n k y : ℕ) (d : Diagram) → Whole n y d → Well n y (foralls n k d)
unfolding foralls
well_foralls n zero y d w = well_done w
well_foralls n (suc k) y d w = let m = well_foralls n k y d w in well_then (foralls n k d) m.all (well_forall n (k + 1) y (foralls n k d).it m.whole)

pub well_emptied : (n y : ℕ) (d : Diagram) → Whole n y d → Well n y (emptied n d)
unfolding emptied
well_emptied n y d w = let m = well_negate n y d w in well_then (negate d) m.all (well_foralls n n y (negate d).it m.whole)
