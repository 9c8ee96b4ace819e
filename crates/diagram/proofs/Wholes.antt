-- Ordered and reduced diagrams give and form ordered and reduced diagrams.
use Rattle.std.proofs.Common.{Some, None, Option, ◌≡◌, ℕ, zero, suc, ◌+◌, ◌<◌, ◌≤◌, Bool, true, false, cond, List, [], ◌∷◌, ◌++◌, ℤ, pos, neg_ℤ, nat_abs, refl, ap, not-suc-le-zero, arith, ◌⊎◌, subst, inl, inr}
use lib.Signed.{lt_z}
use Rattle.std.proofs.lemmas.Bool.{and_parts, and_from, false≢true, or_cases}
use Rattle.diagram.specs.Diagrams.{Diagram, top, bottom, node, ordered, Made, same, has}
use Rattle.diagram.specs.Rules.{Part, τ, -τ, plain, listed, signed, after, rule, apply, rewrite, negate, part, reduce}
use Rattle.diagram.specs.Reduced.{stops, reduced, proper, all_proper}
use Rattle.diagram.specs.Shapes.{Whole, Well}
use Rattle.diagram.specs.declared.rule.Rule.{Rule}
use Rattle.diagram.specs.declared.rule.Rule.TheVariants.{One, Two, Three, Four, Five, Six, Seven, Eight, Nine, Ten}
use Rattle.diagram.proofs.Rewrites.{Says, said, rank, rank_small, falls_5, falls_6, falls_7, falls_8, falls_9, falls_10, rising, order, nat_abs_neg}
use Rattle.diagram.proofs.Goods.{Over, over_negate, good_reduce}
use Rattle.diagram.proofs.Laws.{deep_negate}
use Rattle.diagram.proofs.Same.{same_true}

-- lists
pub all_append : (n : ℕ) (xs ys : List Diagram) → all_proper n xs ≡ true → all_proper n ys ≡ true → all_proper n (xs ++ ys) ≡ true
unfolding all_proper
all_append n [] ys p q = q
all_append n (x ∷ xs) ys p q = let r = and_parts (proper n x) _ p in and_from _ _ r.0 (all_append n xs ys r.1 q)

all_listed : (n : ℕ) (d : Diagram) → ordered n d ≡ true → reduced d ≡ true → all_proper n (listed d) ≡ true
unfolding all_proper
all_listed n top o r = refl
all_listed n bottom o r = refl
all_listed n (node x a b c) o r = and_from _ _ (and_from _ _ o r) refl

-- a node that no rule changes
pub reduced_node : (x : ℤ) (a b c : Diagram) → rule x a b c ≡ None → reduced a ≡ true → reduced b ≡ true → reduced c ≡ true → reduced (node x a b c) ≡ true
unfolding reduced
reduced_node x a b c e ra rb rc = and_from _ _ (ap stops e) (and_from _ _ ra (and_from _ _ rb rc))

pub record PartsReduced (x : ℤ) (a b c : Diagram) : Type 0 where
  pub here : rule x a b c ≡ None
  pub low : reduced a ≡ true
  pub high : reduced b ≡ true
  pub rest : reduced c ≡ true

pub reduced_parts : (x : ℤ) (a b c : Diagram) → reduced (node x a b c) ≡ true → PartsReduced x a b c
unfolding reduced
reduced_parts x a b c e =
    let p = and_parts (stops (rule x a b c)) _ e in
    let q = and_parts (reduced a) _ p.1 in
    let r = and_parts (reduced b) _ q.1 in
    record { here = only (rule x a b c) p.0; low = q.0; high = r.0; rest = r.1 }
  where
    only : (r : Option Rule) → stops r ≡ true → r ≡ None
    only (Some r) e = absurd (false≢true e)
    only None e = refl

-- a result that is reduced, with all that was formed
record Rests (n : ℕ) (m : Made) : Type 0 where
  rests : reduced m.it ≡ true
  all : all_proper n m.formed ≡ true

-- a part over x, and its negation
record Kept (n : ℕ) (x : ℤ) (p : Part) : Type 0 where
  over : Over n x p.it
  rests : reduced p.it ≡ true
  over_negated : Over n x p.negated.it
  negated : Rests n p.negated

over_turned : (n : ℕ) (x : ℤ) (d : Diagram) → Over n x d → Over n (neg_ℤ x) d
over_turned n x d o = record { fine = o.fine; past = rw nat_abs_neg o.past }

kept_turned : (n : ℕ) (x : ℤ) (p : Part) → Kept n x p → Kept n (neg_ℤ x) p
kept_turned n x p k = record {
  over = over_turned n x p.it k.over;
  rests = k.rests;
  over_negated = over_turned n x p.negated.it k.over_negated;
  negated = k.negated;
}

kept_plain : (n : ℕ) (x : ℤ) (d : Diagram) → Over n x d → reduced d ≡ true → Kept n x (plain d)
unfolding all_proper
kept_plain n x d o r = record { over = o; rests = r; over_negated = o; negated = record { rests = r; all = refl } }

kept_leaves : (n : ℕ) (x : ℤ) → nat_abs x ≤ n → Kept n x τ × Kept n x -τ
unfolding ordered reduced all_proper
kept_leaves n x l = (
  record { over = record { fine = refl; past = omega arith }; rests = refl; over_negated = record { fine = refl; past = omega arith }; negated = record { rests = refl; all = refl } },
  record { over = record { fine = refl; past = omega arith }; rests = refl; over_negated = record { fine = refl; past = omega arith }; negated = record { rests = refl; all = refl } },
)

signed_rests : (n : ℕ) (x : ℤ) (p : Part) → Kept n x p → Rests n (signed x p)
signed_rests n x p k = go (lt_z x (pos 0))
  where
    go : (s : Bool) → Rests n (cond s p.negated (record { it = p.it; formed = listed p.it }))
    go true = k.negated
    go false = record { rests = k.rests; all = all_listed n p.it k.over.fine k.rests }

stored_rests : (n : ℕ) (x : ℤ) (a b c : Part) → 0 < nat_abs x → nat_abs x ≤ n → Kept n x a → Kept n x b → Kept n x c → rule x a.it b.it c.it ≡ None
    → Rests n (record { it = node x a.it b.it c.it; formed = node x a.it b.it c.it ∷ [] })
unfolding all_proper
stored_rests n x a b c z l ka kb kc e =
    let r = reduced_node x a.it b.it c.it e ka.rests kb.rests kc.rests in
    let o = order n x a.it b.it c.it (record { first = z; last = l; low = ka.over.past; high = kb.over.past; rest = kc.over.past; a_ordered = ka.over.fine; b_ordered = kb.over.fine; c_ordered = kc.over.fine }) in
    record { rests = r; all = and_from _ _ (and_from _ _ o r) refl }

after_rests : (n : ℕ) (m m' : Made) → Rests n m → Rests n m' → Rests n (after m.formed m')
after_rests n m m' p q = record { rests = q.rests; all = all_append n m.formed m'.formed p.all q.all }

-- rewriting ends where no rule applies
rewrite_rests : (n k : ℕ) (x : ℤ) (a b c : Part) → 0 < nat_abs x → nat_abs x ≤ n → rank x a.it b.it < k → Kept n x a → Kept n x b → Kept n x c
    → Rests n (rewrite k x a b c)
unfolding rewrite
rewrite_rests n zero x a b c z l h ka kb kc = absurd (not-suc-le-zero h)
rewrite_rests n (suc k) x a b c z l h ka kb kc = go (rule x a.it b.it c.it) refl (said x a.it b.it c.it) (rewrite_rests n k)
  where
    IH : Type 0
    IH = (x : ℤ) (a b c : Part) → 0 < nat_abs x → nat_abs x ≤ n → rank x a.it b.it < k → Kept n x a → Kept n x b → Kept n x c → Rests n (rewrite k x a b c)

    t : Kept n x τ
    t = (kept_leaves n x l).0

    f : Kept n x -τ
    f = (kept_leaves n x l).1

    turn : (d e : Part) → IH → rank (neg_ℤ x) d.it e.it < rank x a.it b.it → Kept n x d → Kept n x e → Rests n (rewrite k (neg_ℤ x) d e τ)
    turn d e ih r kd ke = ih (neg_ℤ x) d e τ (rw nat_abs_neg z) (rw nat_abs_neg l) (omega arith) (kept_turned n x d kd) (kept_turned n x e ke) (kept_turned n x τ t)

    go : (r : Option Rule) → rule x a.it b.it c.it ≡ r → ((r : Option Rule) → rule x a.it b.it c.it ≡ r → Says x a.it b.it c.it r) → IH → Rests n (apply r (rewrite k) x a b c)
    go (Some One) e s ih = signed_rests n x -τ f
    go (Some Two) e s ih = signed_rests n x -τ f
    go (Some Three) e s ih = signed_rests n x c kc
    go (Some Four) e s ih = signed_rests n x a ka
    go (Some Five) e s ih = ih x τ -τ a z l (omega (arith, falls_5 x a.it b.it c.it (s (Some Five) e))) t f ka
    go (Some Six) e s ih = ih x -τ τ b z l (omega (arith, falls_6 x a.it b.it c.it (s (Some Six) e))) f t kb
    go (Some Seven) e s ih = ih x a τ c z l (omega (arith, falls_7 x a.it b.it c.it (s (Some Seven) e))) ka t kc
    go (Some Eight) e s ih = ih x τ b c z l (omega (arith, falls_8 x a.it b.it c.it (s (Some Eight) e))) t kb kc
    go (Some Nine) e s ih =
        after_rests n b.negated (rewrite k (neg_ℤ x) -τ (plain b.negated.it) τ) kb.negated
        (turn -τ (plain b.negated.it) ih (falls_9 x a.it b.it c.it bottom b.negated.it (s (Some Nine) e)) f (kept_plain n x b.negated.it kb.over_negated kb.negated.rests))
    go (Some Ten) e s ih =
        after_rests n a.negated (rewrite k (neg_ℤ x) (plain a.negated.it) -τ τ) ka.negated
        (turn (plain a.negated.it) -τ ih (falls_10 x a.it b.it c.it a.negated.it bottom (s (Some Ten) e)) (kept_plain n x a.negated.it ka.over_negated ka.negated.rests) f)
    go None e s ih = stored_rests n x a b c z l ka kb kc e

-- negation
kept_part : (n : ℕ) (x : ℤ) (d : Diagram) → Over n x d → reduced d ≡ true → Rests n (negate d) → Kept n x (part d)
kept_part n x d o r m = record { over = o; rests = r; over_negated = over_negate n x d o; negated = m }

negate_rests : (n : ℕ) (d : Diagram) → ordered n d ≡ true → reduced d ≡ true → Rests n (negate d)
unfolding negate reduced all_proper
negate_rests n top o r = record { rests = refl; all = refl }
negate_rests n bottom o r = record { rests = refl; all = refl }
negate_rests n (node x a b c) o r =
    let w = rising n x a b c o in
    let p = reduced_parts x a b c r in
    rewrite_rests n 6 (neg_ℤ x) (part a) (part b) (part c) (rw nat_abs_neg w.first) (rw nat_abs_neg w.last) (rank_small (neg_ℤ x) a b)
    (kept_turned n x (part a) (kept_part n x a (record { fine = w.a_ordered; past = w.low }) p.low (negate_rests n a w.a_ordered p.low)))
    (kept_turned n x (part b) (kept_part n x b (record { fine = w.b_ordered; past = w.high }) p.high (negate_rests n b w.b_ordered p.high)))
    (kept_turned n x (part c) (kept_part n x c (record { fine = w.c_ordered; past = w.rest }) p.rest (negate_rests n c w.c_ordered p.rest)))

pub well_negate : (n y : ℕ) (d : Diagram) → Whole n y d → Well n y (negate d)
well_negate n y d w =
    let r = negate_rests n d w.deep.fine w.rests in
    record { whole = record { deep = deep_negate n y d w.deep; rests = r.rests }; all = r.all }

-- reduction over x
pub well_reduce : (n : ℕ) (x : ℤ) (a b c : Diagram) → 0 < nat_abs x → nat_abs x ≤ n → Whole n (nat_abs x + 1) a → Whole n (nat_abs x + 1) b → Whole n (nat_abs x + 1) c
    → Well n (nat_abs x) (reduce x a b c)
well_reduce n x a b c z l wa wb wc =
    let g = good_reduce n x a b c z l (over a wa) (over b wb) (over c wc) in
    let r = rewrite_rests n 6 x (part a) (part b) (part c) z l (rank_small x a b) (kept a wa) (kept b wb) (kept c wc) in
    record { whole = record { deep = record { fine = g.fine; past = g.past }; rests = r.rests }; all = r.all }
  where
    over : (d : Diagram) → Whole n (nat_abs x + 1) d → Over n x d
    over d w = record { fine = w.deep.fine; past = omega (arith, w.deep.past) }

    kept : (d : Diagram) → Whole n (nat_abs x + 1) d → Kept n x (part d)
    kept d w = kept_part n x d (over d w) w.rests (negate_rests n d w.deep.fine w.rests)

-- what stands in a list of ordered and reduced diagrams is one
pub all_has : (n : ℕ) (ds : List Diagram) (d : Diagram) → all_proper n ds ≡ true → has ds d ≡ true → proper n d ≡ true
unfolding all_proper has
all_has n [] d p h = absurd (false≢true h)
all_has n (e ∷ es) d p h =
    let q = and_parts (proper n e) (all_proper n es) p in
    go q.0 (or_cases (same e d) (has es d) h) (all_has n es d q.1)
  where
    go : proper n e ≡ true → (same e d ≡ true) ⊎ (has es d ≡ true) → (has es d ≡ true → proper n d ≡ true) → proper n d ≡ true
    go p (inl s) r = subst (λ (v : Diagram). proper n v ≡ true) (same_true e d s) p
    go p (inr k) r = r k
