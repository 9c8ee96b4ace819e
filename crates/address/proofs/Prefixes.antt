-- Prefix text is read exactly as its grammar says.
use Rattle.std.proofs.Common.{◌≡◌, ℕ, suc, ◌+◌, ◌<◌, ◌≤◌, Bool, true, false, cond, eqb, ltb, leb, List, ◌∷◌, ◌++◌, length, take, drop, Some, None, Ok, Err, Option, Result, sym, refl, ap, ◌∙◌, subst, arith, length-append}
use Rattle.std.proofs.lemmas.List.{take_at, drop_at, drop-drop}
use Rattle.std.proofs.lemmas.Bool.{lt-ltb, le-ltb, le-leb, eq-eqb, eqb-true, leb-true, ltb-true}
use Rattle.text.specs.Hexadecimal.{hex_digit}
use Rattle.text.specs.Numerals.{decimal}
use Rattle.text.specs.Split.{before}
use Rattle.text.specs.Written.{Decimal}
use Rattle.text.proofs.Clears.{Without, without_append, group_without, before_none, before_first, cut_at}
use Rattle.text.proofs.Spelled.{decimal_to, decimal_from}
use Rattle.address.specs.declared.fault.PrefixFault.{PrefixFault}
use Rattle.address.specs.declared.fault.PrefixFault.TheVariants.{Length, Stray}
use Rattle.address.specs.declared.fault.AddressFault.{AddressFault}
use Rattle.address.specs.declared.prefix.Prefix.{Prefix}
use Rattle.address.specs.Address.{address}
use Rattle.address.specs.Prefix.{length_or, length_at, bits_past_of, passed, sized_prefix, whole_prefix, prefix, in_line}
use Rattle.address.specs.Grammar.{Joined, one, more, Side, none, some, Spells, full, short, PrefixText, whole, sized, Accepts}
use Rattle.address.proofs.Spelling.{refused, same_ok, spelling_to, spelling_from}

-- an address has no byte that is neither a hexadecimal digit nor `:`
module _ (c : ℕ) (other : hex_digit c ≡ None) (apart : eqb 58 c ≡ false) where
  joined_without : {t vs : List ℕ} → Joined t vs → Without c t
  joined_without (one t v g) = group_without c other g
  joined_without (more t ts v vs g j) = without_append c t (58 ∷ ts) (group_without c other g) (apart, joined_without j)

  side_without : {t vs : List ℕ} → Side t vs → Without c t
  side_without none = tt
  side_without (some t vs j) = joined_without j

  pub spells_without : {t gs : List ℕ} → Spells t gs → Without c t
  spells_without (full t vs j l) = joined_without j
  spells_without (short l ls r rs n a b m k) = without_append c l (58 ∷ 58 ∷ r) (side_without a) (apart, (apart, side_without b))

pub length_to : (p : ℕ) {d : List ℕ} {k : ℕ} → Decimal d k → k ≤ 128 → length_at p d ≡ Ok k
length_to p {d} {k} n l = ap (length_or p) (decimal_to n) ∙ rw (le-leb k 128 l) refl

-- prefix text is accepted
prefix_to : {t : List ℕ} {x : Prefix} → PrefixText t x → prefix t ≡ Ok x
prefix_to (whole t a s) = rw (before_none 47 t (spells_without 47 refl refl s.spells), le-ltb (length t) (length t) (omega arith), spelling_to t a s) refl
prefix_to (sized t d a k s n l z) =
    let b : before 47 (t ++ (47 ∷ d)) ≡ length t = before_first 47 t d (spells_without 47 refl refl s.spells) in
    let w : length t < length (t ++ (47 ∷ d)) = omega (arith, length-append t (47 ∷ d)) in
    let r : drop (length t + 1) (t ++ (47 ∷ d)) ≡ d = sym (drop-drop 1 (length t) (t ++ (47 ∷ d))) ∙ ap (drop 1) (drop_at t (47 ∷ d) (length t) refl) in
    rw (b, lt-ltb _ _ w, take_at t (47 ∷ d) (length t) refl, r, spelling_to t a s, length_to (length t + 1) n l, eq-eqb (bits_past_of k a) 0 z) refl

-- what is accepted is prefix text
pub length_from : (p : ℕ) (d : List ℕ) (k : ℕ) → length_at p d ≡ Ok k → Decimal d k × (k ≤ 128)
length_from p d k e = some_from (decimal d) refl e
  where
    small : (n : ℕ) (b : Bool) → decimal d ≡ Some n → leb n 128 ≡ b → cond b (Ok n) (Err (Length p)) ≡ Ok k → Decimal d k × (k ≤ 128)
    small n true h l e = let z : n ≡ k = same_ok e in (decimal_from d k (h ∙ ap Some z), omega (arith, leb-true n 128 l))
    small n false h l e = refused e

    some_from : (o : Option ℕ) → decimal d ≡ o → length_or p o ≡ Ok k → Decimal d k × (k ≤ 128)
    some_from (Some n) h e = small n (leb n 128) h refl e
    some_from None h e = refused e

whole_from : (t : List ℕ) (x : Prefix) (r : Result ℕ AddressFault) → address t ≡ r → whole_prefix r ≡ Ok x → PrefixText t x
whole_from t x (Ok a) h e = subst (PrefixText t) (same_ok e) (whole t a (spelling_from t a h))
whole_from t x (Err d) h e = refused e

sized_from : (t d : List ℕ) (p : ℕ) (x : Prefix) (r : Result ℕ AddressFault) (o : Result ℕ PrefixFault) → address t ≡ r → length_at p d ≡ o → sized_prefix r o ≡ Ok x → PrefixText (t ++ (47 ∷ d)) x
sized_from t d p x (Err f) o h g e = refused e
sized_from t d p x (Ok a) (Err f) h g e = refused e
sized_from t d p x (Ok a) (Ok k) h g e = go (eqb (bits_past_of k a) 0) refl e
  where
    go : (b : Bool) → eqb (bits_past_of k a) 0 ≡ b → passed (cond b (Ok (record { address = a; length = Some k })) (Err (Stray 0))) ≡ Ok x → PrefixText (t ++ (47 ∷ d)) x
    go true z e = let n = length_from p d k g in subst (PrefixText (t ++ (47 ∷ d))) (same_ok e) (sized t d a k (spelling_from t a h) n.0 n.1 (eqb-true (bits_past_of k a) 0 z))
    go false z e = refused e

prefix_from : (t : List ℕ) (x : Prefix) → prefix t ≡ Ok x → PrefixText t x
prefix_from t x e = go (ltb (before 47 t) (length t)) refl e
  where
    go : (b : Bool) → ltb (before 47 t) (length t) ≡ b → cond b (sized_prefix (address (take (before 47 t) t)) (length_at (before 47 t + 1) (drop (before 47 t + 1) t))) (whole_prefix (address t)) ≡ Ok x → PrefixText t x
    go true h e =
        let q : before 47 t + 1 ≡ suc (before 47 t) = omega arith in
        let k : take (before 47 t) t ++ (47 ∷ drop (before 47 t + 1) t) ≡ t = rw q (cut_at 47 t (ltb-true (before 47 t) (length t) h)) in
        subst (λ y. PrefixText y x) k (sized_from (take (before 47 t) t) (drop (before 47 t + 1) t) (before 47 t + 1) x _ _ refl refl e)
    go false h e = whole_from t x (address t) refl e

in_line_ok : (start : ℕ) (r : Result Prefix AddressFault) (x : Prefix) → in_line start r ≡ Ok x → r ≡ Ok x
in_line_ok start (Ok y) x h = ap Ok (same_ok h)
in_line_ok start (Err e) x h = refused h

-- an answer that is the prefix
pub accepts_prefix : (start : ℕ) (t : List ℕ) (r : Result Prefix AddressFault) → r ≡ in_line start (prefix t) → Accepts r (PrefixText t)
accepts_prefix start t r e x = (λ h. prefix_from t x (in_line_ok start (prefix t) x (sym e ∙ h)), λ g. e ∙ ap (in_line start) (prefix_to g))
