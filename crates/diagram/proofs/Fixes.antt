-- Fixing, forall and empty as equations.
use Rattle.std.proofs.Common.{◌≡◌, ℕ, Bool, true, false, eqb, ℤ, nat_abs, refl, ap}
use Rattle.std.proofs.lemmas.Bool.{eq-eqb, ne_eqb}
use Rattle.diagram.specs.Diagrams.{Diagram, node}
use Rattle.diagram.specs.Fix.{fix_here, fix_parts, fix_node, fix, forall, foralls, emptied}
use Rattle.diagram.specs.FixLaws.{Fixing}
use Rattle.diagram.proofs.Foralls.{foralls_more}

-- a node, by whether its label is the variable
by_label : (n v : ℕ) (bit : Bool) (x : ℤ) (a b c : Diagram) (t : Bool) → eqb (nat_abs x) v ≡ t
    → fix n v bit (node x a b c) ≡ fix_node n t bit x a b c (fix n v bit a) (fix n v bit b) (fix n v bit c)
unfolding fix
by_label n v bit x a b c t e = ap (λ (u : Bool). fix_node n u bit x a b c (fix n v bit a) (fix n v bit b) (fix n v bit c)) e

pub fixing : (n : ℕ) → Fixing n
unfolding fix fix_here fix_parts forall foralls emptied
fixing n = record {
  variable = λ v. refl;
  of_top = λ v bit. refl;
  of_bottom = λ v bit. refl;
  at_low = λ x a b c. by_label n (nat_abs x) false x a b c true (eq-eqb (nat_abs x) (nat_abs x) refl);
  at_high = λ x a b c. by_label n (nat_abs x) true x a b c true (eq-eqb (nat_abs x) (nat_abs x) refl);
  elsewhere = λ v bit x a b c d. by_label n v bit x a b c false (ne_eqb (nat_abs x) v d);
  both = λ v d. refl;
  none = λ d. refl;
  more = λ k d. foralls_more n k d;
  works = λ d. refl;
  answers = λ d. refl;
}
