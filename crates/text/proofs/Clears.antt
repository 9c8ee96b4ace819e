-- Texts without a byte, and texts that are cut at one.
use Rattle.std.proofs.Common.{◌≡◌, ℕ, suc, ◌+◌, ◌<◌, false, eqb, List, [], ◌∷◌, ◌++◌, length, get_or, take, drop, None, sym, refl, ap, ◌∙◌, arith, add-one}
use Rattle.std.proofs.lemmas.Bool.{eq-eqb, ne_eqb, eqb-true}
use Rattle.std.proofs.lemmas.List.Sums.{split_at_first, passes_at_first}
use Rattle.text.specs.Hexadecimal.{hex_digit}
use Rattle.text.specs.Split.{before, split}
use Rattle.text.specs.Written.{HexDigit, Digits, none, more, Group}
use Rattle.text.proofs.Spelled.{nothing, hex_to}

-- no byte of the text is c
abbrev pub Without : ℕ → List ℕ → Type 0
Without c [] = Unit {0}
Without c (x ∷ xs) = (eqb x c ≡ false) × Without c xs

pub without_append : (c : ℕ) (a b : List ℕ) → Without c a → Without c b → Without c (a ++ b)
without_append c [] b h g = g
without_append c (x ∷ xs) b h g = (h.0, without_append c xs b h.1 g)

digits_without : (c : ℕ) → hex_digit c ≡ None → {t ds : List ℕ} → Digits HexDigit t ds → Without c t
digits_without c n none = tt
digits_without c n (more x d cs ds h r) = (ne_eqb x c (λ e. nothing (sym n ∙ ap hex_digit (sym e) ∙ hex_to x d h)), digits_without c n r)

-- a group has no byte that is no digit
pub group_without : (c : ℕ) → hex_digit c ≡ None → {t : List ℕ} {v : ℕ} → Group t v → Without c t
group_without c n g = digits_without c n g.digits

pub split_without : (c p : ℕ) (t : List ℕ) → Without c t → split c p t ≡ record { place = p; text = t } ∷ []
split_without c p [] h = refl
split_without c p (x ∷ xs) h = rw (h.0, split_without c (p + 1) xs h.1) refl

pub split_first : (c p : ℕ) (t ts : List ℕ) → Without c t → split c p (t ++ (c ∷ ts)) ≡ record { place = p; text = t } ∷ split c (suc (p + length t)) ts
split_first c p [] ts h = let e : p + 1 ≡ suc (p + 0) = omega arith in rw (eq-eqb c c refl, e) refl
split_first c p (x ∷ xs) ts h =
    let e : suc (p + 1 + length xs) ≡ suc (p + suc (length xs)) = omega arith in
    rw (h.0, split_first c (p + 1) xs ts h.1, e) refl

pub before_none : (c : ℕ) (t : List ℕ) → Without c t → before c t ≡ length t
before_none c [] h = refl
before_none c (x ∷ xs) h = let e = before_none c xs h.1 in rw h.0 (omega arith)

pub before_first : (c : ℕ) (t ts : List ℕ) → Without c t → before c (t ++ (c ∷ ts)) ≡ length t
before_first c [] ts h = rw (eq-eqb c c refl) refl
before_first c (x ∷ xs) ts h = let e = before_first c xs ts h.1 in rw h.0 (omega arith)

-- a text is what stands before the first c, that c, and the rest
pub cut_at : (c : ℕ) (t : List ℕ) → before c t < length t → take (before c t) t ++ (c ∷ drop (suc (before c t)) t) ≡ t
cut_at c t h =
    let e : get_or t (before c t) 0 ≡ c = eqb-true _ _ (passes_at_first (λ x. eqb x c) t 0 h) in
    sym (split_at_first (λ x. eqb x c) t 0 h ∙ rw (e, add-one) refl)
