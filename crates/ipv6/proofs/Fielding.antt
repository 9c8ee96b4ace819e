-- A line's fields are told exactly as the relations say.
use Rattle.std.proofs.Common.{◌≡◌, ℕ, ◌<◌, true, false, eqb, ◌⊎◌, List, [], ◌∷◌, length, Some, None, Ok, Err, Option, Result, refl, subst, arith}
use Rattle.std.proofs.lemmas.Bool.{cond_both, le-leb, eqb-true, eqb-false, eq-eqb, ne_eqb}
use Rattle.std.proofs.lemmas.Bool.Decides.{nat_tests}
use Rattle.text.specs.declared.fault.LineFault.{LineFault}
use Rattle.text.specs.declared.fault.LineFault.TheVariants as line
use Rattle.text.specs.Split.{Part}
use Rattle.text.specs.Lines.{Parts, first_empty, two_or_three_of, unless_empty, fits_line, line_fields}
use Rattle.ipv6.specs.Refusals.{fields, Sized, NoneEmpty, none, more, FirstEmpty, here, later, TwoOrThree, two, three, Misnumbered, too_few, too_many, Unfielded, ill_sized, empty_field, misnumbered, HasFields}

-- where the first empty field is
abbrev Emptied : List Part → Option ℕ → Type 0
Emptied fs None = NoneEmpty fs
Emptied fs (Some p) = FirstEmpty fs p

emptied : (fs : List Part) → Emptied fs (first_empty fs)
emptied [] = none
emptied (f ∷ fs) =
    cond_both (eqb (length f.text) 0) (Some f.place) (first_empty fs) (Emptied (f ∷ fs)) (λ e. here f fs (eqb-true (length f.text) 0 e))
    (λ e. rest (let n = eqb-false (length f.text) 0 e in omega arith) (first_empty fs) (emptied fs))
  where
    rest : 0 < length f.text → (o : Option ℕ) → Emptied fs o → Emptied (f ∷ fs) o
    rest l None h = more f fs l h
    rest l (Some p) h = later f fs p l h

none_to : {fs : List Part} → NoneEmpty fs → first_empty fs ≡ None
none_to none = refl
none_to (more f fs l h) = rw (ne_eqb (length f.text) 0 (λ z. omega arith)) (none_to h)

empty_to : {fs : List Part} {p : ℕ} → FirstEmpty fs p → first_empty fs ≡ Some p
empty_to (here f fs e) = rw (eq-eqb (length f.text) 0 e) refl
empty_to (later f fs p l h) = rw (ne_eqb (length f.text) 0 (λ z. omega arith)) (empty_to h)

-- two or three fields, or the place that a wrong number of them is told at
abbrev Counted : ℕ → List Part → Result Parts LineFault → Type 0
Counted end fs (Ok p) = TwoOrThree fs p
Counted end fs (Err f) = (p : ℕ) × Misnumbered end fs p × (line.Fields p ≡ f)

counted : (end : ℕ) (fs : List Part) → Counted end fs (two_or_three_of end fs)
counted end [] = (end, too_few [] (omega arith), refl)
counted end (a ∷ []) = (end, too_few (a ∷ []) (omega arith), refl)
counted end (a ∷ b ∷ []) = two a b
counted end (a ∷ b ∷ c ∷ []) = three a b c
counted end (a ∷ b ∷ c ∷ d ∷ fs) = (d.place, too_many a b c d fs, refl)

counted_to : (end : ℕ) {fs : List Part} {p : Parts} → TwoOrThree fs p → two_or_three_of end fs ≡ Ok p
counted_to end (two a b) = refl
counted_to end (three a b c) = refl

few_to : (end : ℕ) (fs : List Part) → length fs < 2 → two_or_three_of end fs ≡ Err (line.Fields end)
few_to end [] l = refl
few_to end (a ∷ []) l = refl
few_to end (a ∷ b ∷ fs) l = absurd (omega arith)

wrong_to : (end : ℕ) {fs : List Part} {p : ℕ} → Misnumbered end fs p → two_or_three_of end fs ≡ Err (line.Fields p)
wrong_to end (too_few fs l) = few_to end fs l
wrong_to end (too_many a b c d fs) = refl

-- the line's length
sized_to : (text : List ℕ) → Sized text → fits_line text ≡ true
sized_to text s = rw (le-leb 1 (length text) s.some, le-leb (length text) 80 s.few) refl

unsized_to : (text : List ℕ) → (length text ≡ 0) ⊎ (80 < length text) → fits_line text ≡ false
unsized_to text h = grind (arith, nat_tests)

sized_from : (text : List ℕ) → fits_line text ≡ true → Sized text
sized_from text e = record { some = grind (arith, nat_tests); few = grind (arith, nat_tests) }

unsized_from : (text : List ℕ) → fits_line text ≡ false → (length text ≡ 0) ⊎ (80 < length text)
unsized_from text e = grind (arith, nat_tests)

-- the fields of a line, or its fault
abbrev pub Fielded : List ℕ → Result Parts LineFault → Type 0
Fielded text (Ok p) = HasFields text p
Fielded text (Err f) = Unfielded text f

pub fielded : (text : List ℕ) → Fielded text (line_fields text)
fielded text =
    cond_both (fits_line text) (unless_empty (first_empty (fields text)) (two_or_three_of (length text) (fields text))) (Err line.Length) (Fielded text)
    (λ s. full (sized_from text s) (first_empty (fields text)) (emptied (fields text))) (λ s. ill_sized (unsized_from text s))
  where
    number : Sized text → NoneEmpty (fields text) → (r : Result Parts LineFault) → Counted (length text) (fields text) r → Fielded text r
    number s h (Ok p) t = record { sized = s; full = h; are = t }
    number s h (Err f) (p, w, e) = subst (Unfielded text) e (misnumbered p s h w)

    full : Sized text → (o : Option ℕ) → Emptied (fields text) o → Fielded text (unless_empty o (two_or_three_of (length text) (fields text)))
    full s None h = number s h (two_or_three_of (length text) (fields text)) (counted (length text) (fields text))
    full s (Some p) h = empty_field p s h

pub fields_to : (text : List ℕ) {p : Parts} → HasFields text p → line_fields text ≡ Ok p
fields_to text h = rw (sized_to text h.sized, none_to h.full) (counted_to (length text) h.are)

pub unfielded_to : (text : List ℕ) {f : LineFault} → Unfielded text f → line_fields text ≡ Err f
unfielded_to text (ill_sized h) = rw (unsized_to text h) refl
unfielded_to text (empty_field p s h) = rw (sized_to text s, empty_to h) refl
unfielded_to text (misnumbered p s h w) = rw (sized_to text s, none_to h) (wrong_to (length text) w)
