use Rattle.std.proofs.Common.{◌≡◌, ℕ, zero, suc, ◌+◌, ◌<◌, ◌≤◌, Bool, true, false, cond, not, ◌&&◌, eqb, ℤ, pos, nat_abs, sym, refl, ap, ◌∙◌, subst, zero-le, arith}
use mathlib.Core.Path.{fun_ext}
use lib.Signed.{lt_z}
use Rattle.std.proofs.lemmas.Bool.{and_parts, and_from, eqb-true, eqb-false, ne_eqb, both_ways, le-ltb, not_from_true, not_from_false}
use Rattle.diagram.specs.Diagrams.{Diagram, top, bottom, node, level, ordered, same, Made}
use Rattle.diagram.specs.Meet.{meet}
use Rattle.diagram.specs.Fix.{turn, fix_here, fix_parts, fix_node, fix, forall, foralls, emptied, empty, literal}
use Rattle.diagram.specs.Values.{turned, mean, Assignment, value, held}
use Rattle.diagram.proofs.Same.{same_true, same_refl}
use Rattle.diagram.proofs.Rewrites.{Rising, rising}
use Rattle.diagram.proofs.Goods.{Over, over_negate, good_reduce, Met, meet_good, negate_fine}
use Rattle.diagram.proofs.Bools.{and_swap, not_not}
use Rattle.diagram.proofs.Values.{value_node, value_negate, value_reduce}
use Rattle.diagram.proofs.MeetValues.{value_meet}
use Rattle.diagram.proofs.Laws.{level_first}

pub met : (n : ℕ) (s t : Diagram) → ordered n s ≡ true → ordered n t ≡ true → Met n s t (meet n s t).it
unfolding meet
met n s t os ot = meet_good n (n + 1) s t os ot (omega (arith, level_first n s os, level_first n t ot))

-- no label of the diagram is v
pub value_past : (n v : ℕ) (bit : Bool) (g : Assignment) (d : Diagram) → ordered n d ≡ true → v < level n d → value d (held g v bit) ≡ value d g
unfolding value
value_past n v bit g top o h = refl
value_past n v bit g bottom o h = refl
value_past n v bit g (node x a b c) o h =
    let r = rising n x a b c o in
    let e : eqb (nat_abs x) v ≡ false = ne_eqb (nat_abs x) v (λ q. omega arith) in
    rw (e, value_past n v bit g a r.a_ordered (omega (arith, r.low)), value_past n v bit g b r.b_ordered (omega (arith, r.high)), value_past n v bit g c r.c_ordered (omega (arith, r.rest)))

over_turn : (n : ℕ) (x : ℤ) (s : Bool) (t : Diagram) → Over n x t → Over n x (turn s t).it
over_turn n x true t o = over_negate n x t o
over_turn n x false t o = o

value_turn : (n : ℕ) (g : Assignment) (s : Bool) (t : Diagram) → ordered n t ≡ true → value (turn s t).it g ≡ turned s (value t g)
value_turn n g true t o = value_negate n g t o
value_turn n g false t o = refl

-- what fixing a variable gives
pub record Fixed (n v : ℕ) (d r : Diagram) : Type 0 where
  pub fine : ordered n r ≡ true
  pub past : level n d ≤ level n r
  pub gone : v ≤ n → v ≤ level n d → v < level n r

over_met_of : (n : ℕ) (x : ℤ) (s t : Diagram) → Over n x s → Over n x t → Over n x (meet n s t).it
over_met_of n x s t os ot =
    let m = met n s t os.fine ot.fine in
    record { fine = m.fine; past = omega (arith, m.past, os.past, ot.past) }

-- x·(h ∧ c) at the variable's own label
here_good : (n : ℕ) (x : ℤ) (h c : Diagram) → Over n x h → Over n x c → Over n x (fix_here n (lt_z x (pos 0)) h c).it
unfolding fix_here
here_good n x h c oh oc = over_turn n x (lt_z x (pos 0)) _ (over_met_of n x h c oh oc)

pub fix_good : (n v : ℕ) (bit : Bool) (d : Diagram) → ordered n d ≡ true → Fixed n v d (fix n v bit d).it
unfolding fix fix_parts
fix_good n v bit top o = record { fine = o; past = omega arith; gone = λ p q. omega arith }
fix_good n v bit bottom o = record { fine = o; past = omega arith; gone = λ p q. omega arith }
fix_good n v bit (node x a b c) o =
    go (eqb (nat_abs x) v) bit refl (fix n v bit a) (fix n v bit b) (fix n v bit c) (fix_good n v bit a r.a_ordered) (fix_good n v bit b r.b_ordered) (fix_good n v bit c r.c_ordered)
  where
    r : Rising n x a b c
    r = rising n x a b c o

    here : nat_abs x ≡ v → (h : Diagram) → ordered n h ≡ true → nat_abs x < level n h → Fixed n v (node x a b c) (fix_here n (lt_z x (pos 0)) h c).it
    here q h f l =
        let w = here_good n x h c (record { fine = f; past = l }) (record { fine = r.c_ordered; past = r.rest }) in
        record { fine = w.fine; past = omega (arith, w.past); gone = λ h k. omega (arith, w.past) }

    go : (t bit : Bool) → eqb (nat_abs x) v ≡ t → (fa fb fc : Made) → Fixed n v a fa.it → Fixed n v b fb.it → Fixed n v c fc.it
        → Fixed n v (node x a b c) (fix_node n t bit x a b c fa fb fc).it
    go true false e fa fb fc ga gb gc = here (eqb-true (nat_abs x) v e) a r.a_ordered r.low
    go true true e fa fb fc ga gb gc = here (eqb-true (nat_abs x) v e) b r.b_ordered r.high
    go false bit e fa fb fc ga gb gc =
        let w = good_reduce n x _ _ _ r.first r.last
        (record { fine = ga.fine; past = omega (arith, r.low, ga.past) }) (record { fine = gb.fine; past = omega (arith, r.high, gb.past) }) (record { fine = gc.fine; past = omega (arith, r.rest, gc.past) }) in
        let q = eqb-false (nat_abs x) v e in
        record { fine = w.fine; past = omega (arith, w.past); gone = λ h k. omega (arith, w.past, q) }

here_value : (n : ℕ) (g : Assignment) (x : ℤ) (h c : Diagram) → Over n x h → Over n x c → value (fix_here n (lt_z x (pos 0)) h c).it g ≡ turned (lt_z x (pos 0)) (value c g && value h g)
unfolding fix_here
here_value n g x h c oh oc =
    value_turn n g (lt_z x (pos 0)) _ (over_met_of n x h c oh oc).fine
    ∙ ap (turned (lt_z x (pos 0))) (value_meet n g h c oh.fine oc.fine ∙ and_swap (value h g) (value c g))

-- fixing a variable holds it at the bit
pub value_fix : (n v : ℕ) (bit : Bool) (g : Assignment) (d : Diagram) → ordered n d ≡ true → value (fix n v bit d).it g ≡ value d (held g v bit)
unfolding fix fix_parts value
value_fix n v bit g top o = refl
value_fix n v bit g bottom o = refl
value_fix n v bit g (node x a b c) o =
    go (eqb (nat_abs x) v) bit refl
    (λ e. value_past n v bit g a r.a_ordered (past e a r.low)) (λ e. value_past n v bit g b r.b_ordered (past e b r.high)) (λ e. value_past n v bit g c r.c_ordered (past e c r.rest))
    (value_fix n v bit g a r.a_ordered) (value_fix n v bit g b r.b_ordered) (value_fix n v bit g c r.c_ordered)
  where
    r : Rising n x a b c
    r = rising n x a b c o

    past : eqb (nat_abs x) v ≡ true → (d : Diagram) → nat_abs x < level n d → v < level n d
    past e d l = let q = eqb-true (nat_abs x) v e in omega arith

    oa : Over n x a
    oa = record { fine = r.a_ordered; past = r.low }

    ob : Over n x b
    ob = record { fine = r.b_ordered; past = r.high }

    oc : Over n x c
    oc = record { fine = r.c_ordered; past = r.rest }

    h : Assignment
    h = held g v bit

    go : (t k : Bool) → eqb (nat_abs x) v ≡ t
        → (eqb (nat_abs x) v ≡ true → value a h ≡ value a g) → (eqb (nat_abs x) v ≡ true → value b h ≡ value b g) → (eqb (nat_abs x) v ≡ true → value c h ≡ value c g)
        → value (fix n v bit a).it g ≡ value a h → value (fix n v bit b).it g ≡ value b h → value (fix n v bit c).it g ≡ value c h
        → value (fix_node n t k x a b c (fix n v bit a) (fix n v bit b) (fix n v bit c)).it g
        ≡ mean (lt_z x (pos 0)) (cond t k (g (nat_abs x))) (value a h) (value b h) (value c h)
    go true false e pa pb pc ia ib ic = rw (pa e, pc e) (here_value n g x a c oa oc)
    go true true e pa pb pc ia ib ic = rw (pb e, pc e) (here_value n g x b c ob oc)
    go false k e pa pb pc ia ib ic =
        value_reduce n g x _ _ _ (fix_good n v bit a r.a_ordered).fine (fix_good n v bit b r.b_ordered).fine (fix_good n v bit c r.c_ordered).fine
        ∙ (value_node g x (fix n v bit a).it (fix n v bit b).it (fix n v bit c).it ∙ rw (ia, ib, ic))

-- both fixes
pub forall_good : (n v : ℕ) (d : Diagram) → ordered n d ≡ true → Fixed n v d (forall n v d).it
unfolding forall
forall_good n v d o =
    let l = fix_good n v false d o in
    let h = fix_good n v true d o in
    let m = met n _ _ l.fine h.fine in
    record { fine = m.fine; past = omega (arith, m.past, l.past, h.past); gone = λ p q. omega (arith, m.past, l.gone p q, h.gone p q) }

pub value_forall : (n v : ℕ) (g : Assignment) (d : Diagram) → ordered n d ≡ true → value (forall n v d).it g ≡ (value d (held g v false) && value d (held g v true))
unfolding forall
value_forall n v g d o =
    value_meet n g _ _ (fix_good n v false d o).fine (fix_good n v true d o).fine ∙ rw (value_fix n v false g d o, value_fix n v true g d o)

-- the variables 1 to k, one by one
pub record Gone (n k : ℕ) (r : Diagram) : Type 0 where
  pub fine : ordered n r ≡ true
  pub past : k < level n r

pub foralls_gone : (n k : ℕ) (d : Diagram) → ordered n d ≡ true → k ≤ n → Gone n k (foralls n k d).it
unfolding foralls
foralls_gone n zero d o h = record { fine = o; past = level_first n d o }
foralls_gone n (suc k) d o h =
    let w = foralls_gone n k d o (omega arith) in
    let f = forall_good n (k + 1) _ w.fine in
    record { fine = f.fine; past = omega (arith, f.gone (omega arith) (omega (arith, w.past))) }

foralls_true : (n k : ℕ) (d : Diagram) → ordered n d ≡ true → k ≤ n → ((g : Assignment) → value d g ≡ true) → (g : Assignment) → value (foralls n k d).it g ≡ true
unfolding foralls
foralls_true n zero d o l h g = h g
foralls_true n (suc k) d o l h g =
    let f = foralls_true n k d o (omega arith) h in
    value_forall n (k + 1) g _ (foralls_gone n k d o (omega arith)).fine ∙ and_from _ _ (f (held g (k + 1) false)) (f (held g (k + 1) true))

held_own : (g : Assignment) (v : ℕ) → held g v (g v) ≡ g
held_own g v = fun_ext (λ k. go k (eqb k v) refl)
  where
    go : (k : ℕ) (t : Bool) → eqb k v ≡ t → cond t (g v) (g k) ≡ g k
    go k true e = ap g (sym (eqb-true k v e))
    go k false e = refl

-- where both fixes are true, the diagram is
forall_back : (n v : ℕ) (d : Diagram) (g : Assignment) → ordered n d ≡ true → value (forall n v d).it g ≡ true → value d g ≡ true
forall_back n v d g o h =
    let p = and_parts (value d (held g v false)) _ (sym (value_forall n v g d o) ∙ h) in
    subst (λ (f : Assignment). value d f ≡ true) (held_own g v) (go (g v) p.0 p.1)
  where
    go : (bit : Bool) → value d (held g v false) ≡ true → value d (held g v true) ≡ true → value d (held g v bit) ≡ true
    go true l h = h
    go false l h = l

foralls_back : (n k : ℕ) (d : Diagram) (g : Assignment) → ordered n d ≡ true → k ≤ n → value (foralls n k d).it g ≡ true → value d g ≡ true
unfolding foralls
foralls_back n zero d g o l h = h
foralls_back n (suc k) d g o l h = foralls_back n k d g o (omega arith) (forall_back n (k + 1) _ g (foralls_gone n k d o (omega arith)).fine h)

-- past all variables stands only τ or −τ
true_top : (n : ℕ) (g : Assignment) (r : Diagram) → ordered n r ≡ true → n + 1 ≤ level n r → value r g ≡ true → same r top ≡ true
unfolding value
true_top n g top o l e = same_refl top
true_top n g bottom o l e = absurd (both_ways _ refl e)
true_top n g (node x a b c) o l e = let r = rising n x a b c o in absurd (omega (arith, r.last))

value_of_top : (g : Assignment) (r : Diagram) → same r top ≡ true → value r g ≡ true
unfolding value
value_of_top g r e = rw (same_true r top e)

-- empty says yes exactly where the value is false under every assignment
pub empty_false : (n : ℕ) (d : Diagram) → ordered n d ≡ true → empty n d ≡ true → (g : Assignment) → value d g ≡ false
unfolding emptied
empty_false n d o e g =
    let t = foralls_back n n _ g (negate_fine n d o) (omega arith) (value_of_top g _ e) in
    sym (not_not (value d g)) ∙ not_from_true (not (value d g)) (sym (value_negate n g d o) ∙ t)

pub false_empty : (n : ℕ) (d : Diagram) → ordered n d ≡ true → ((g : Assignment) → value d g ≡ false) → empty n d ≡ true
unfolding emptied
false_empty n d o h =
    let f = negate_fine n d o in
    let w = foralls_gone n n _ f (omega arith) in
    let g : Assignment = λ k. true in
    true_top n g _ w.fine (omega (arith, w.past)) (foralls_true n n _ f (omega arith) (λ g. value_negate n g d o ∙ not_from_false _ (h g)) g)

pub value_literal : (g : Assignment) (v : ℕ) → 0 < v → value (literal v).it g ≡ g v
unfolding value
value_literal g v h = rw (le-ltb v 0 zero-le) (go (g v))
  where
    go : (b : Bool) → cond b true false ≡ b
    go true = refl
    go false = refl
