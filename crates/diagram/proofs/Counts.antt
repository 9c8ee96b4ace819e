use Rattle.std.proofs.Common.{◌≡◌, suc, ◌≤◌, Bool, true, false, cond, not, ◌||◌, ◌⊎◌, List, [], ◌∷◌, length, sym, refl, ap, ◌∙◌, inl, inr, zero-le, arith}
use Rattle.std.proofs.lemmas.Bool.{and_parts, and_from, or_cases, or_left, or_right, not-true, not_from_false, cases_Bool, both_ways, false≢true}
use Rattle.diagram.specs.Diagrams.{Diagram, same, has, unlike, once, count}
use Rattle.diagram.proofs.Same.{same_refl, same_true}

infix 30 ◌⊆◌
-- every diagram of xs stands in ys
abbrev pub ◌⊆◌ : List Diagram → List Diagram → Type 0
xs ⊆ ys = (d : Diagram) → has xs d ≡ true → has ys d ≡ true

drop_one : Diagram → List Diagram → List Diagram
drop_one d [] = []
drop_one d (e ∷ es) = cond (same e d) es (e ∷ drop_one d es)

drop_one_length : (d : Diagram) (es : List Diagram) → has es d ≡ true → length es ≡ suc (length (drop_one d es))
unfolding drop_one has
drop_one_length d [] h = absurd (false≢true h)
drop_one_length d (e ∷ es) h = go (same e d) h (drop_one_length d es)
  where
    go : (b : Bool) → (b || has es d) ≡ true → (has es d ≡ true → length es ≡ suc (length (drop_one d es)))
        → suc (length es) ≡ suc (length (cond b es (e ∷ drop_one d es)))
    go true h r = refl
    go false h r = ap suc (r h)

drop_one_keeps : (d c : Diagram) (es : List Diagram) → (c ≡ d → ⊥) → has es c ≡ true → has (drop_one d es) c ≡ true
unfolding drop_one has
drop_one_keeps d c [] ne h = h
drop_one_keeps d c (e ∷ es) ne h = go (same e d) refl (or_cases _ _ h) (drop_one_keeps d c es ne)
  where
    go : (b : Bool) → same e d ≡ b → (same e c ≡ true) ⊎ (has es c ≡ true) → (has es c ≡ true → has (drop_one d es) c ≡ true)
        → has (cond b es (e ∷ drop_one d es)) c ≡ true
    go true s (inl k) r = absurd (ne (sym (same_true e c k) ∙ same_true e d s))
    go true s (inr k) r = k
    go false s (inl k) r = or_left _ _ k
    go false s (inr k) r = or_right (same e c) _ (r k)

-- so many different diagrams want so many places
pub places : (xs ys : List Diagram) → unlike xs ≡ true → xs ⊆ ys → length xs ≤ length ys
unfolding unlike has
places [] ys u sub = zero-le
places (x ∷ xs) ys u sub =
    let p = and_parts (not (has xs x)) _ u in
    let here : has ys x ≡ true = sub x (or_left _ _ (same_refl x)) in
    let rest : length xs ≤ length (drop_one x ys) = places xs (drop_one x ys) p.1 (λ d h. drop_one_keeps x d ys (λ e. both_ways (has xs x) (not-true _ p.0) (rw (← e) h)) (sub d (or_right (same x d) _ h))) in
    omega (arith, drop_one_length x ys here)

pub once_has : (ds : List Diagram) (d : Diagram) → has (once ds) d ≡ has ds d
unfolding once has
once_has [] d = refl
once_has (x ∷ ds) d = go (has ds x) refl (cases_Bool (same x d)) (once_has ds d)
  where
    go : (b : Bool) → has ds x ≡ b → (same x d ≡ true) ⊎ (same x d ≡ false) → has (once ds) d ≡ has ds d
        → has (cond b (once ds) (x ∷ once ds)) d ≡ (same x d || has ds d)
    go true e (inl s) r = let f = rw (same_true x d s) at e in r ∙ f ∙ sym (or_left _ _ s)
    go true e (inr s) r = rw s r
    go false e c r = ap (λ v. same x d || v) r

pub once_unlike : (ds : List Diagram) → unlike (once ds) ≡ true
unfolding once unlike
once_unlike [] = refl
once_unlike (x ∷ ds) = go (has ds x) refl (once_unlike ds)
  where
    go : (b : Bool) → has ds x ≡ b → unlike (once ds) ≡ true → unlike (cond b (once ds) (x ∷ once ds)) ≡ true
    go true e r = r
    go false e r = and_from _ _ (not_from_false _ (once_has ds x ∙ e)) r

pub count_least : (xs ys : List Diagram) → unlike xs ≡ true → xs ⊆ ys → length xs ≤ count ys
count_least xs ys u sub = places xs (once ys) u (λ d h. once_has ys d ∙ sub d h)

pub count_most : (xs ys : List Diagram) → ys ⊆ xs → count ys ≤ length xs
count_most xs ys sub = places (once ys) xs (once_unlike ys) (λ d h. sub d (sym (once_has ys d) ∙ h))

pub count_sub : (xs ys : List Diagram) → xs ⊆ ys → count xs ≤ count ys
count_sub xs ys sub = count_least (once xs) ys (once_unlike xs) (λ d h. sub d (sym (once_has xs d) ∙ h))
