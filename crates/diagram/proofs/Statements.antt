-- The theorems, put together from the lemmas.
use Rattle.std.proofs.Common.{◌≡◌, ℕ, ◌+◌, ◌≤◌, min, Bool, true, false, ℤ, pos, nat_abs, refl, zero-le, arith}
use Rattle.std.proofs.lemmas.Bool.{and_from, le-ltb}
use Rattle.diagram.specs.Diagrams.{Diagram, top, bottom, node, level, ordered, same}
use Rattle.diagram.specs.Rules.{rewrite, reduce, negate}
use Rattle.diagram.specs.Meet.{meet, meet_within, nand, without, minus, either, both_negative, both_positive, opposite, under_negative, under_positive}
use Rattle.diagram.specs.Fix.{literal, fix, fix_here, fix_parts, forall, emptied}
use Rattle.diagram.specs.Reduced.{reduced, all_proper}
use Rattle.diagram.specs.Values.{Assignment, mean, value}
use Rattle.diagram.specs.Shapes.{Deep, Well, Order, Reduction}
use Rattle.diagram.specs.Meanings.{Meaning}
use Rattle.diagram.specs.Examples.{Examples}
use Rattle.diagram.proofs.Rewrites.{rising, order}
use Rattle.diagram.proofs.Goods.{good_reduce, negate_fine}
use Rattle.diagram.proofs.Laws.{deep_negate, deep_meet, fix_fine}
use Rattle.diagram.proofs.Rules.{settles}
use Rattle.diagram.proofs.Wholes.{reduced_parts, well_negate, well_reduce}
use Rattle.diagram.proofs.MeetWholes.{well_meet, well_fix, well_forall, well_foralls, well_emptied}
use Rattle.diagram.proofs.Values.{value_negate, value_reduce}
use Rattle.diagram.proofs.MeetValues.{value_meet}
use Rattle.diagram.proofs.Decides.{value_fix, value_forall, value_literal, empty_false, false_empty, foralls_gone}

-- a literal
literal_ordered : (n v : ℕ) → 1 ≤ v → v ≤ n → ordered n (literal v).it ≡ true
unfolding ordered
literal_ordered n v z l =
    order n (pos v) bottom top top (record { first = omega arith; last = l; low = omega arith; high = omega arith; rest = omega arith; a_ordered = refl; b_ordered = refl; c_ordered = refl })

literal_reduced : (v : ℕ) → reduced (literal v).it ≡ true
unfolding reduced same
literal_reduced v = rw (le-ltb v 0 zero-le)

literal_well : (n v : ℕ) → 1 ≤ v → v ≤ n → Well n v (literal v)
unfolding all_proper
literal_well n v z l =
    let o = literal_ordered n v z l in
    let r = literal_reduced v in
    record { whole = record { deep = record { fine = o; past = omega arith }; rests = r }; all = and_from _ _ (and_from _ _ o r) refl }

reduce_deep : (n : ℕ) (x : ℤ) (a b c : Diagram) → ordered n (node x a b c) ≡ true → Deep n (nat_abs x) (reduce x a b c).it
reduce_deep n x a b c o =
    let r = rising n x a b c o in
    let g = good_reduce n x a b c r.first r.last (record { fine = r.a_ordered; past = r.low }) (record { fine = r.b_ordered; past = r.high }) (record { fine = r.c_ordered; past = r.rest }) in
    record { fine = g.fine; past = g.past }

forall_deep : (n v : ℕ) (d : Diagram) → ordered n d ≡ true → Deep n (level n d) (forall n v d).it
unfolding forall
forall_deep n v d o = deep_meet n (level n d) (fix n v false d).it (fix n v true d).it (fix_fine n v false d o) (fix_fine n v true d o)

emptied_deep : (n : ℕ) (d : Diagram) → ordered n d ≡ true → Deep n (n + 1) (emptied n d).it
unfolding emptied
emptied_deep n d o =
    let w = foralls_gone n n (negate d).it (negate_fine n d o) (omega arith) in
    record { fine = w.fine; past = omega (arith, w.past) }

pub orders : (n : ℕ) → Order n
orders n = record {
  of_literal = λ v z l. record { fine = literal_ordered n v z l; past = omega arith };
  of_reduce = reduce_deep n;
  of_negate = λ d o. deep_negate n (level n d) d (record { fine = o; past = omega arith });
  of_meet = λ s t os ot. deep_meet n (min (level n s) (level n t)) s t (record { fine = os; past = omega arith }) (record { fine = ot; past = omega arith });
  of_fix = fix_fine n;
  of_forall = forall_deep n;
  of_emptied = emptied_deep n;
}

reduce_well : (n : ℕ) (x : ℤ) (a b c : Diagram) → ordered n (node x a b c) ≡ true → reduced a ≡ true → reduced b ≡ true → reduced c ≡ true
    → Well n (nat_abs x) (reduce x a b c)
reduce_well n x a b c o ra rb rc =
    let r = rising n x a b c o in
    well_reduce n x a b c r.first r.last
    (record { deep = record { fine = r.a_ordered; past = omega (arith, r.low) }; rests = ra })
    (record { deep = record { fine = r.b_ordered; past = omega (arith, r.high) }; rests = rb })
    (record { deep = record { fine = r.c_ordered; past = omega (arith, r.rest) }; rests = rc })

pub reductions : (n : ℕ) → Reduction n
reductions n = record {
  settled = λ x a b c e. settles x a b c (reduced_parts x a b c e).here;
  of_literal = literal_well n;
  of_reduce = reduce_well n;
  of_negate = well_negate n;
  of_meet = well_meet n;
  of_fix = well_fix n;
  of_forall = well_forall n;
  of_foralls = well_foralls n;
  of_emptied = well_emptied n;
}

-- assignments that agree on 1 to n
value_only : (n : ℕ) (d : Diagram) (g h : Assignment) → ordered n d ≡ true → ((v : ℕ) → 1 ≤ v → v ≤ n → g v ≡ h v) → value d g ≡ value d h
unfolding value
value_only n top g h o e = refl
value_only n bottom g h o e = refl
value_only n (node x a b c) g h o e =
    let r = rising n x a b c o in
    rw (e (nat_abs x) r.first r.last, value_only n a g h r.a_ordered e, value_only n b g h r.b_ordered e, value_only n c g h r.c_ordered e)

reduce_value : (n : ℕ) (x : ℤ) (a b c : Diagram) (g : Assignment) → ordered n (node x a b c) ≡ true → value (reduce x a b c).it g ≡ value (node x a b c) g
reduce_value n x a b c g o = let r = rising n x a b c o in value_reduce n g x a b c r.a_ordered r.b_ordered r.c_ordered

pub meanings : (n : ℕ) → Meaning n
meanings n = record {
  of_reduce = reduce_value n;
  of_negate = λ d g o. value_negate n g d o;
  of_meet = λ s t g os ot. value_meet n g s t os ot;
  of_literal = λ v g z. value_literal g v z;
  of_fix = λ v bit d g o. value_fix n v bit g d o;
  of_forall = λ v d g o. value_forall n v g d o;
  of_empty = λ d o. (empty_false n d o, false_empty n d o);
  only = value_only n;
}

twins : (p q : Bool) → mean true p false true (mean false q true false true) ≡ mean false p true (mean false q false true true) true
twins true true = refl
twins true false = refl
twins false true = refl
twins false false = refl

hidden : (p q : Bool) → mean false p (mean false q false true true) false (mean false q true false true) ≡ false
hidden true true = refl
hidden true false = refl
hidden false true = refl
hidden false false = refl

pub examples : Examples
unfolding negate rewrite same meet meet_within nand without minus either both_negative both_positive opposite under_negative under_positive fix fix_here fix_parts forall ordered reduced value
examples = (refl, refl, refl, refl, refl, refl, refl, (refl, refl, refl, λ g. twins (g 1) (g 2)), (refl, refl, λ g. hidden (g 1) (g 2)))
