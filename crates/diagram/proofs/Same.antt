use Rattle.std.proofs.Common.{◌≡◌, ℕ, zero, suc, ◌<◌, Bool, true, false, ◌||◌, ◌⊎◌, List, [], ◌∷◌, ◌++◌, length, get_or, ℤ, pos, negsuc, refl, ap, ◌∙◌, inl, inr, le_of_suc-le-suc, not-suc-le-zero, arith}
use Rattle.std.proofs.lemmas.Bool.{and_parts, and_from, or_cases, or_parts, or_from, or_left, or_right, not-true, not_from_false, eqb-true, eq-eqb, cases_Bool, both_ways, false≢true}
use Rattle.diagram.specs.Diagrams.{Diagram, top, bottom, node, eqℤ, same, has, unlike}

pub eqℤ_refl : (x : ℤ) → eqℤ x x ≡ true
eqℤ_refl (pos n) = eq-eqb n n refl
eqℤ_refl (negsuc n) = eq-eqb n n refl

pub eqℤ_true : (x y : ℤ) → eqℤ x y ≡ true → x ≡ y
eqℤ_true (pos a) (pos b) e = ap pos (eqb-true a b e)
eqℤ_true (pos a) (negsuc b) e = absurd (false≢true e)
eqℤ_true (negsuc a) (pos b) e = absurd (false≢true e)
eqℤ_true (negsuc a) (negsuc b) e = ap negsuc (eqb-true a b e)

pub same_refl : (d : Diagram) → same d d ≡ true
unfolding same
same_refl top = refl
same_refl bottom = refl
same_refl (node x a b c) =
    and_from _ _ (eqℤ_refl x) (and_from _ _ (same_refl a) (and_from _ _ (same_refl b) (same_refl c)))

pub same_true : (s t : Diagram) → same s t ≡ true → s ≡ t
unfolding same
same_true top top e = refl
same_true top bottom e = absurd (false≢true e)
same_true top (node y d f g) e = absurd (false≢true e)
same_true bottom top e = absurd (false≢true e)
same_true bottom bottom e = refl
same_true bottom (node y d f g) e = absurd (false≢true e)
same_true (node x a b c) top e = absurd (false≢true e)
same_true (node x a b c) bottom e = absurd (false≢true e)
same_true (node x a b c) (node y d f g) e =
    let p = and_parts _ _ e in
    let q = and_parts _ _ p.1 in
    let r = and_parts _ _ q.1 in
    let ex = eqℤ_true x y p.0 in
    let ea = same_true a d q.0 in
    let eb = same_true b f r.0 in
    let ec = same_true c g r.1 in
    cc

pub has_append : (xs ys : List Diagram) (d : Diagram) → has (xs ++ ys) d ≡ (has xs d || has ys d)
unfolding has
has_append [] ys d = refl
has_append (x ∷ xs) ys d = go (same x d) (has_append xs ys d)
  where
    go : (b : Bool) → has (xs ++ ys) d ≡ (has xs d || has ys d) → (b || has (xs ++ ys) d) ≡ ((b || has xs d) || has ys d)
    go true e = refl
    go false e = e

pub has_here : (d : Diagram) → has (d ∷ []) d ≡ true
unfolding has
has_here d = or_left _ _ (same_refl d)

pub has_only : (e d : Diagram) → has (e ∷ []) d ≡ true → e ≡ d
unfolding has
has_only e d h = go (or_cases (same e d) false h)
  where
    go : (same e d ≡ true) ⊎ (false ≡ true) → e ≡ d
    go (inl s) = same_true e d s
    go (inr f) = absurd (false≢true f)

pub has_get_d : (ds : List Diagram) (i : ℕ) → i < length ds → has ds (get_or ds i top) ≡ true
unfolding has
has_get_d [] i h = absurd (not-suc-le-zero h)
has_get_d (d ∷ ds) zero h = or_left _ _ (same_refl d)
has_get_d (d ∷ ds) (suc i) h = or_right (same d (get_or ds i top)) _ (has_get_d ds i (le_of_suc-le-suc h))

-- where a diagram stands
pub has_place : (ds : List Diagram) (d : Diagram) → has ds d ≡ true → (i : ℕ) × (i < length ds) × (get_or ds i top ≡ d)
unfolding has
has_place [] d e = absurd (false≢true e)
has_place (x ∷ ds) d e = go (or_cases _ _ e) (has_place ds d)
  where
    go : (same x d ≡ true) ⊎ (has ds d ≡ true) → (has ds d ≡ true → (i : ℕ) × (i < length ds) × (get_or ds i top ≡ d)) → (i : ℕ) × (i < length (x ∷ ds)) × (get_or (x ∷ ds) i top ≡ d)
    go (inl s) rest = (zero, omega arith, same_true x d s)
    go (inr h) rest = let p = rest h in (suc p.0, omega arith, p.2)

pub unlike_more : (ds : List Diagram) (d : Diagram) → unlike ds ≡ true → has ds d ≡ false → unlike (ds ++ d ∷ []) ≡ true
unfolding unlike has
unlike_more [] d u h = refl
unlike_more (x ∷ ds) d u h =
    let p = and_parts _ _ u in
    let q = or_parts _ _ h in
    and_from _ _
    (not_from_false _ (has_append ds (d ∷ []) x ∙ or_from _ _ (not-true _ p.0) (or_from _ _ (other (cases_Bool (same d x))) refl)))
    (unlike_more ds d p.1 q.1)
  where
    other : (same d x ≡ true) ⊎ (same d x ≡ false) → same d x ≡ false
    other (inl e) = absurd (both_ways (same x d) (or_parts _ _ h).0 (rw (same_true d x e) (same_refl x)))
    other (inr e) = e

pub unlike_place : (ds : List Diagram) (i j : ℕ) → unlike ds ≡ true → i < length ds → j < length ds → get_or ds i top ≡ get_or ds j top → i ≡ j
unfolding unlike has
unlike_place [] i j u hi hj e = absurd (not-suc-le-zero hi)
unlike_place (x ∷ ds) zero zero u hi hj e = refl
unlike_place (x ∷ ds) zero (suc j) u hi hj e =
    absurd (both_ways (has ds x) (not-true _ (and_parts _ _ u).0) (rw e (has_get_d ds j (le_of_suc-le-suc hj))))
unlike_place (x ∷ ds) (suc i) zero u hi hj e =
    absurd (both_ways (has ds x) (not-true _ (and_parts _ _ u).0) (rw (← e) (has_get_d ds i (le_of_suc-le-suc hi))))
unlike_place (x ∷ ds) (suc i) (suc j) u hi hj e =
    ap suc (unlike_place ds i j (and_parts _ _ u).1 (le_of_suc-le-suc hi) (le_of_suc-le-suc hj) e)
