-- Prefix text is refused exactly as the relation says.
use Rattle.std.proofs.Common.{◌≡◌, ℕ, ◌+◌, ◌<◌, ◌≤◌, Bool, true, false, cond, eqb, leb, ◌⊎◌, List, length, Some, None, Ok, Err, Option, Result, sym, refl, ap, ◌∙◌, subst, inl, inr}
use Rattle.std.proofs.lemmas.List.{take_all}
use Rattle.std.proofs.lemmas.Bool.{cases_lt, lt-ltb, le-ltb, eq-eqb, ne_eqb, leb-true}
use Rattle.text.specs.Numerals.{decimal}
use Rattle.text.specs.Split.{before}
use Rattle.text.specs.Written.{Decimal}
use Rattle.text.proofs.Spelled.{decimal_from}
use Rattle.address.specs.declared.fault.PrefixFault.{PrefixFault}
use Rattle.address.specs.declared.fault.PrefixFault.TheVariants.{Length, Stray}
use Rattle.address.specs.declared.fault.AddressFault.{AddressFault}
use Rattle.address.specs.declared.fault.AddressFault.TheVariants as fault
use Rattle.address.specs.declared.prefix.Prefix.{Prefix}
use Rattle.address.specs.Address.{address}
use Rattle.address.specs.Prefix.{length_or, length_at, bits_past_of, passed, sized_prefix, whole_prefix, prefix, in_line}
use Rattle.address.specs.Refusals.{address_text, length_text, PrefixRefused, no_address, no_length, stray, RefusedAt, Refuses}
use Rattle.address.proofs.Spelling.{refused, spelling_to, spelling_from}
use Rattle.address.proofs.Prefixes.{length_to, length_from}
use Rattle.address.proofs.Refusing.{same_err, refusal_from, refusal_to}

-- a text with `/`, and one without
prefix_cut : (t : List ℕ) → before 47 t < length t → prefix t ≡ sized_prefix (address (address_text t)) (length_at (before 47 t + 1) (length_text t))
prefix_cut t l = rw (lt-ltb (before 47 t) (length t) l) refl

prefix_whole : (t : List ℕ) → length t ≤ before 47 t → prefix t ≡ whole_prefix (address (address_text t))
prefix_whole t l = rw (le-ltb (before 47 t) (length t) l) (ap (λ x. whole_prefix (address x)) (sym (take_all (before 47 t) t l)))

-- a length that is refused
length_fault : (p : ℕ) (o : Option ℕ) (d : PrefixFault) → length_or p o ≡ Err d → Length p ≡ d
length_fault p None d e = same_err e
length_fault p (Some n) d e = go (leb n 128) e
  where
    go : (b : Bool) → cond b (Ok n) (Err (Length p)) ≡ Err d → Length p ≡ d
    go true e = refused (sym e)
    go false e = same_err e

length_none : (p : ℕ) (d : List ℕ) → ((k : ℕ) → Decimal d k → k ≤ 128 → ⊥) → length_at p d ≡ Err (Length p)
length_none p d h = go (decimal d) refl
  where
    big : (n : ℕ) (b : Bool) → decimal d ≡ Some n → leb n 128 ≡ b → cond b (Ok n) (Err (Length p)) ≡ Err (Length p)
    big n true e l = absurd (h n (decimal_from d n e) (leb-true n 128 l))
    big n false e l = refl

    go : (o : Option ℕ) → decimal d ≡ o → length_or p o ≡ Err (Length p)
    go None e = refl
    go (Some n) e = big n (leb n 128) e refl

whole_from : (t : List ℕ) (f : AddressFault) (r : Result ℕ AddressFault) → address (address_text t) ≡ r → whole_prefix r ≡ Err f → PrefixRefused t f
whole_from t f (Ok a) h e = refused (sym e)
whole_from t f (Err d) h e = no_address f (refusal_from (address_text t) f (h ∙ ap Err (same_err e)))

sized_from : (t : List ℕ) (f : AddressFault) (r : Result ℕ AddressFault) (o : Result ℕ PrefixFault) → address (address_text t) ≡ r → length_at (before 47 t + 1) (length_text t) ≡ o → before 47 t < length t → sized_prefix r o ≡ Err f → PrefixRefused t f
sized_from t f (Err d) o h g l e = no_address f (refusal_from (address_text t) f (h ∙ ap Err (same_err e)))
sized_from t f (Ok a) (Err d) h g l e =
    let z : fault.Prefix (Length (before 47 t + 1)) ≡ f = ap fault.Prefix (length_fault (before 47 t + 1) (decimal (length_text t)) d g) ∙ same_err e in
    subst (PrefixRefused t) z (no_length a (spelling_from (address_text t) a h) l (λ k n m. refused (sym g ∙ length_to (before 47 t + 1) n m)))
sized_from t f (Ok a) (Ok k) h g l e = go (eqb (bits_past_of k a) 0) refl e
  where
    go : (b : Bool) → eqb (bits_past_of k a) 0 ≡ b → passed (cond b (Ok (record { address = a; length = Some k })) (Err (Stray 0))) ≡ Err f → PrefixRefused t f
    go true z e = refused (sym e)
    go false z e =
        let n = length_from (before 47 t + 1) (length_text t) k g in
        subst (PrefixRefused t) (same_err e) (stray a k (spelling_from (address_text t) a h) l n.0 n.1 (λ y. let w : true ≡ false = sym (eq-eqb (bits_past_of k a) 0 y) ∙ z in cc))

barred_from : (t : List ℕ) (f : AddressFault) → prefix t ≡ Err f → PrefixRefused t f
barred_from t f e = go (cases_lt (before 47 t) (length t))
  where
    go : (before 47 t < length t) ⊎ (length t ≤ before 47 t) → PrefixRefused t f
    go (inl l) = sized_from t f (address (address_text t)) (length_at (before 47 t + 1) (length_text t)) refl refl l (sym (prefix_cut t l) ∙ e)
    go (inr l) = whole_from t f (address (address_text t)) refl (sym (prefix_whole t l) ∙ e)

barred_to : (t : List ℕ) {f : AddressFault} → PrefixRefused t f → prefix t ≡ Err f
barred_to t (no_address f r) = go (cases_lt (before 47 t) (length t))
  where
    go : (before 47 t < length t) ⊎ (length t ≤ before 47 t) → prefix t ≡ Err f
    go (inl l) = prefix_cut t l ∙ ap (λ x. sized_prefix x (length_at (before 47 t + 1) (length_text t))) (refusal_to (address_text t) f r)
    go (inr l) = prefix_whole t l ∙ ap whole_prefix (refusal_to (address_text t) f r)
barred_to t (no_length a s l n) = prefix_cut t l ∙ rw (spelling_to (address_text t) a s, length_none (before 47 t + 1) (length_text t) n) refl
barred_to t (stray a k s l n m z) = prefix_cut t l ∙ rw (spelling_to (address_text t) a s, length_to (before 47 t + 1) n m, ne_eqb (bits_past_of k a) 0 z) refl

line_from : (start : ℕ) (t : List ℕ) (f : AddressFault) (r : Result Prefix AddressFault) → prefix t ≡ r → in_line start r ≡ Err f → RefusedAt start t f
line_from start t f (Ok x) h e = refused (sym e)
line_from start t f (Err d) h e = record { of_text = d; refused = barred_from t d h; in_line = sym (same_err e) }

-- an answer that is the prefix
pub refuses_prefix : (start : ℕ) (t : List ℕ) (r : Result Prefix AddressFault) → r ≡ in_line start (prefix t) → Refuses r (RefusedAt start t)
refuses_prefix start t r e f = (
  λ h. line_from start t f (prefix t) refl (sym e ∙ h),
  λ g. e ∙ ap (in_line start) (barred_to t g.refused) ∙ ap Err (sym g.in_line),
)
