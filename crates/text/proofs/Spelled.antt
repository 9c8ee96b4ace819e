-- Numbers are read exactly as the relations say.
use Rattle.std.proofs.Common.{◌≡◌, ℕ, ◌+◌, ◌-◌, ◌*◌, ◌≤◌, Bool, true, false, cond, ltb, leb, ◌⊎◌, List, [], ◌∷◌, length, get_or, Some, None, Option, sym, refl, ap, ◌∙◌, subst, inl, inr, arith}
use Rattle.std.specs.Int.Digits.{number_from_digits_after}
use Rattle.std.proofs.lemmas.Bool.Decides.{nat_tests}
use Rattle.std.proofs.lemmas.Bool.{cases_lt, and_parts, leb-true, ltb-true, le-leb, lt-ltb, eq-eqb, ne_eqb}
use Rattle.text.specs.Hexadecimal.{hex_digit}
use Rattle.text.specs.Numerals.{dec_digit_of, number_after, sized, number_of, group, padded, decimal}
use Rattle.text.specs.Written.{DecDigit, HexDigit, figure, small, capital, Digits, none, more, Writes, Group, Decimal, Reads}

-- no number where there is none
pub nothing : {v : ℕ} {P : Type 0} → None ≡ Some v → P
nothing e = cc

-- what a digit is and how it is read
record Digital (digit : ℕ → Option ℕ) (Digit : ℕ → ℕ → Type 0) : Type 0 where
  to : (c d : ℕ) → Digit c d → digit c ≡ Some d
  from : (c d : ℕ) → digit c ≡ Some d → Digit c d

dec_to : (c d : ℕ) → DecDigit c d → dec_digit_of c ≡ Some d
dec_to c d h =
    let e = h.code in
    let l = h.below in
    grind (arith, nat_tests)

dec_from : (c d : ℕ) → dec_digit_of c ≡ Some d → DecDigit c d
dec_from c d e = record { code = grind (arith, nat_tests); below = grind (arith, nat_tests) }

decimally : Digital dec_digit_of DecDigit
decimally = record { to = dec_to; from = dec_from }

pub hex_to : (c d : ℕ) → HexDigit c d → hex_digit c ≡ Some d
hex_to _ _ (figure c d h) =
    let e = h.code in
    let l = h.below in
    grind (arith, nat_tests)
hex_to _ _ (small c d e h) = grind (arith, nat_tests)
hex_to _ _ (capital c d e h) = grind (arith, nat_tests)

hex_from : (c v : ℕ) → hex_digit c ≡ Some v → HexDigit c v
hex_from c v e = elim (cases_lt c 58) [
  | inl l ↦ figure c v (record { code = grind (arith, nat_tests); below = grind (arith, nat_tests) })
  | inr l ↦ elim (cases_lt c 97) [
    | inl m ↦ let y : 10 + (c - 65) ≡ v = grind (arith, nat_tests) in subst (HexDigit c) y (capital c (c - 65) (grind (arith, nat_tests)) (grind (arith, nat_tests)))
    | inr m ↦ let y : 10 + (c - 97) ≡ v = grind (arith, nat_tests) in subst (HexDigit c) y (small c (c - 97) (grind (arith, nat_tests)) (grind (arith, nat_tests)))
  ]
]

hexadecimally : Digital hex_digit HexDigit
hexadecimally = record { to = hex_to; from = hex_from }

-- digits in any base
module _ (digit : ℕ → Option ℕ) (Digit : ℕ → ℕ → Type 0) (base : ℕ) (is : Digital digit Digit) where
  record Wrote (a : ℕ) (t : List ℕ) (v : ℕ) : Type 0 where
    values : List ℕ
    digits : Digits Digit t values
    value : v ≡ number_from_digits_after base a values

  digits_to : (a : ℕ) {t ds : List ℕ} → Digits Digit t ds → number_after digit base a t ≡ Some (number_from_digits_after base a ds)
  digits_to a none = refl
  digits_to a (more c d cs ds h r) =
      subst (λ o. elim o [ Some d ↦ number_after digit base (a * base + d) cs | None ↦ None ] ≡ Some (number_from_digits_after base (a * base + d) ds)) (sym (is.to c d h)) (digits_to (a * base + d) r)

  first_digit : (a c : ℕ) (cs : List ℕ) (v : ℕ) (o : Option ℕ) → digit c ≡ o → ((b : ℕ) → number_after digit base b cs ≡ Some v → Wrote b cs v) → elim o [ Some d ↦ number_after digit base (a * base + d) cs | None ↦ None ] ≡ Some v → Wrote a (c ∷ cs) v
  first_digit a c cs v (Some d) h f e = let w = f (a * base + d) e in record { values = d ∷ w.values; digits = more c d cs w.values (is.from c d h) w.digits; value = w.value }
  first_digit a c cs v None h f e = nothing e

  digits_from : (a : ℕ) (t : List ℕ) (v : ℕ) → number_after digit base a t ≡ Some v → Wrote a t v
  digits_from a [] v e = record { values = []; digits = none; value = cc }
  digits_from a (c ∷ cs) v e = first_digit a c cs v (digit c) refl (λ b h. digits_from b cs v h) e

  number_to : (n : ℕ) (t : List ℕ) (v : ℕ) → Writes Digit base n t v → number_of digit base n t ≡ Some v
  number_to n t v w = rw (lt-ltb 0 (length t) w.some, le-leb (length t) n w.few) (digits_to 0 w.digits ∙ ap Some (sym w.value))

  number_from : (n : ℕ) (t : List ℕ) (v : ℕ) → number_of digit base n t ≡ Some v → Writes Digit base n t v
  number_from n t v e = go (sized n t) refl e
    where
      go : (b : Bool) → sized n t ≡ b → cond b (number_after digit base 0 t) None ≡ Some v → Writes Digit base n t v
      go true h e =
          let p = and_parts (ltb 0 (length t)) (leb (length t) n) h in
          let w = digits_from 0 t v e in
          record { values = w.values; digits = w.digits; some = ltb-true 0 (length t) p.0; few = leb-true (length t) n p.1; value = w.value }
      go false h e = nothing e

pub group_to : {t : List ℕ} {v : ℕ} → Group t v → group t ≡ Some v
group_to {t} {v} g = number_to hex_digit HexDigit 16 hexadecimally 4 t v g

pub group_from : (t : List ℕ) (v : ℕ) → group t ≡ Some v → Group t v
group_from t v e = number_from hex_digit HexDigit 16 hexadecimally 4 t v e

-- an answer that is the group's value
pub reads_group : (t : List ℕ) (r : Option ℕ) → r ≡ group t → Reads r (Group t)
reads_group t r e v = (λ h. group_from t v (sym e ∙ h), λ g. e ∙ group_to g)

-- no zero stands before another byte
plain_to : (t : List ℕ) → (length t ≡ 1) ⊎ (get_or t 0 0 ≡ 48 → ⊥) → padded t ≡ false
plain_to [] p = refl
plain_to (c ∷ []) p = refl
plain_to (c ∷ d ∷ cs) (inl e) = absurd (omega arith)
plain_to (c ∷ d ∷ cs) (inr n) = ne_eqb c 48 n

plain_from : (t : List ℕ) → 1 ≤ length t → padded t ≡ false → (length t ≡ 1) ⊎ (get_or t 0 0 ≡ 48 → ⊥)
plain_from [] l e = absurd (omega arith)
plain_from (c ∷ []) l e = inl refl
plain_from (c ∷ d ∷ cs) l e = inr (λ h. let z : false ≡ true = sym e ∙ eq-eqb c 48 h in cc)

pub decimal_to : {t : List ℕ} {v : ℕ} → Decimal t v → decimal t ≡ Some v
decimal_to {t} {v} g = rw (plain_to t g.plain) (number_to dec_digit_of DecDigit 10 decimally 5 t v g.writes)

pub decimal_from : (t : List ℕ) (v : ℕ) → decimal t ≡ Some v → Decimal t v
decimal_from t v e = go (padded t) refl e
  where
    go : (b : Bool) → padded t ≡ b → cond b None (number_of dec_digit_of 10 5 t) ≡ Some v → Decimal t v
    go true h e = nothing e
    go false h e = let w = number_from dec_digit_of DecDigit 10 decimally 5 t v e in record { writes = w; plain = plain_from t w.some h }

-- an answer that is the number's value
pub reads_decimal : (t : List ℕ) (r : Option ℕ) → r ≡ decimal t → Reads r (Decimal t)
reads_decimal t r e v = (λ h. decimal_from t v (sym e ∙ h), λ g. e ∙ decimal_to g)
