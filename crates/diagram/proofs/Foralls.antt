-- Forall over the variables 1 to k: one variable more, and that what is formed up to k is formed up to any later one.
use Rattle.std.proofs.Common.{◌≡◌, ℕ, zero, suc, ◌+◌, sym, ap, ◌∙◌, append_assoc, append-nil, add-zero, add-suc, add-one}
use Rattle.diagram.specs.Diagrams.{Diagram, Made}
use Rattle.diagram.specs.Rules.{after}
use Rattle.diagram.specs.Meet.{done}
use Rattle.diagram.specs.Fix.{forall, foralls}

pub foralls_more : (n k : ℕ) (d : Diagram) → foralls n (k + 1) d ≡ after (foralls n k d).formed (forall n (k + 1) (foralls n k d).it)
unfolding foralls
foralls_more n k d = ap (λ (j : ℕ). foralls n j d) (add-one k)

pub foralls_longer : (n k j : ℕ) (d : Diagram) → (m : Made) × (foralls n (k + j) d ≡ after (foralls n k d).formed m)
unfolding foralls
foralls_longer n k zero d =
    (done (foralls n k d).it, ap (λ (i : ℕ). foralls n i d) (add-zero k) ∙ (λ i. record { it = (foralls n k d).it; formed = sym (append-nil (foralls n k d).formed) i }))
foralls_longer n k (suc j) d =
    let r = foralls_longer n k j d in
    let x = λ (m : Made). after m.formed (forall n (k + j + 1) m.it) in
    (x r.0, ap (λ (i : ℕ). foralls n i d) (add-suc k j) ∙ ap x r.1 ∙ (λ i. record { it = (forall n (k + j + 1) r.0.it).it; formed = append_assoc (foralls n k d).formed r.0.formed (forall n (k + j + 1) r.0.it).formed i }))
