-- The loops that read digits.
use Rattle.std.proofs.Common.{◌≡◌, ℕ, zero, suc, ◌+◌, ◌-◌, ◌*◌, ◌^◌, ◌<◌, ◌≤◌, List, [], ◌∷◌, length, get_or, drop, Some, None, Option, IfSome, inl, inr, refl, sym, subst, ap, ◌∙◌, mul_comm, add-mul, add-one, arith}
use native.Mathlib.Nat.{mul-zero, pow-zero, pow-succ', pow-le-pow_right}
use Rattle.std.specs.Option.{option_map}
use Rattle.std.proofs.lemmas.Nat.{mul-le}
use Rattle.std.proofs.lemmas.List.{drop_more, at_drop_all}
use Rattle.std.proofs.lemmas.Bool.{cases_lt, lt-ltb, le-leb}
use Rattle.std.proofs.lemmas.Bool.Decides.{nat_tests}
use Rattle.text.specs.Hexadecimal.{hex_digit}
use Rattle.text.specs.Numerals.{capped, dec_digit_of, number_after, number_of}

-- a step from a number, and from one that the machine holds in its place
capped_step : (v w b d : ℕ) → capped v ≡ capped w → capped (v * b + d) ≡ capped (w * b + d)
capped_step v w zero d e = rw (mul-zero v, mul-zero w) refl
capped_step v w (suc b) d e = elim (cases_lt v (2 ^ 64 - 1)) [
  | inl l ↦ let q : v ≡ w = omega arith in rw q refl
  | inr l ↦
      let p : v * 1 ≤ v * suc b = mul-le v 1 v (suc b) (omega arith) (omega arith) in
      let q : w * 1 ≤ w * suc b = mul-le w 1 w (suc b) (omega arith) (omega arith) in
      omega arith
]

module _ (digit : ℕ → Option ℕ) (base : ℕ) where
  -- the number that the digits write after v, or the largest of the machine
  abbrev pub capped_after : ℕ → List ℕ → Option ℕ
  capped_after v cs = option_map capped (number_after digit base v cs)

  capped_same : (v w : ℕ) (cs : List ℕ) → capped v ≡ capped w → capped_after v cs ≡ capped_after w cs
  capped_same v w [] e = ap Some e
  capped_same v w (c ∷ cs) e = elim (digit c) as (λ o. option_map capped (elim o [ Some d ↦ number_after digit base (v * base + d) cs | None ↦ None ]) ≡ option_map capped (elim o [ Some d ↦ number_after digit base (w * base + d) cs | None ↦ None ])) [
    | Some d ↦ capped_same (v * base + d) (w * base + d) cs (capped_step v w base d e)
    | None ↦ refl
  ]

  -- the byte here is a digit, or none, or there is no more
  pub number_more : (v : ℕ) (xs : List ℕ) (i d : ℕ) → i < length xs → Some d ≡ digit (get_or xs i 0) → number_after digit base (v * base + d) (drop (i + 1) xs) ≡ number_after digit base v (drop i xs)
  number_more v xs i d h e = rw (drop_more xs i 0 h) (subst (λ o. number_after digit base (v * base + d) (drop (i + 1) xs) ≡ elim o [ Some d ↦ number_after digit base (v * base + d) (drop (i + 1) xs) | None ↦ None ]) e refl)

  pub capped_more : (v w : ℕ) (xs : List ℕ) (i d : ℕ) → i < length xs → Some d ≡ digit (get_or xs i 0) → w ≡ capped (capped (v * base) + d) → capped_after w (drop (i + 1) xs) ≡ capped_after v (drop i xs)
  capped_more v w xs i d h e q = capped_same w (v * base + d) (drop (i + 1) xs) (omega arith) ∙ ap (option_map capped) (number_more v xs i d h e)

  pub capped_stop : (v : ℕ) (xs : List ℕ) (i : ℕ) → i < length xs → None ≡ digit (get_or xs i 0) → None ≡ capped_after v (drop i xs)
  capped_stop v xs i h e = rw (drop_more xs i 0 h) (subst (λ o. None ≡ option_map capped (elim o [ Some d ↦ number_after digit base (v * base + d) (drop (i + 1) xs) | None ↦ None ])) e refl)

  pub capped_end : (v : ℕ) (xs : List ℕ) (i : ℕ) → length xs ≤ i → Some (capped v) ≡ capped_after v (drop i xs)
  capped_end v xs i h = sym (at_drop_all (capped_after v) xs i h)

-- the value of i digits below b, and one digit more
pub power_more : (b v i d : ℕ) → v < b ^ i → d < b → v * b + d < b ^ (i + 1)
power_more b v i d h l =
    let p : (v + 1) * b ≤ b ^ i * b = mul-le (v + 1) b (b ^ i) b (omega arith) (omega arith) in
    rw (add-one, pow-succ') (omega (arith, p, add-mul v 1 b, mul_comm b (b ^ i)))

pub power_below : (b v d i n : ℕ) → 0 < b → v < b ^ i → d < b → i < n → v * b + d < b ^ n
power_below b v d i n o h l k = let p : b ^ (i + 1) ≤ b ^ n = pow-le-pow_right o (omega arith) in omega (arith, power_more b v i d h l, p)

-- what digits write, in a base that has some
module _ (digit : ℕ → Option ℕ) (base : ℕ) (some : 0 < base) (below : (c d : ℕ) → digit c ≡ Some d → d < base) where
  number_below : (n a i v : ℕ) (cs : List ℕ) → a < base ^ i → i + length cs ≤ n → number_after digit base a cs ≡ Some v → v < base ^ n
  number_below n a i v [] h l e =
      let p : base ^ i ≤ base ^ n = pow-le-pow_right some (omega arith) in
      let q : a ≡ v = cc in
      omega arith
  number_below n a i v (c ∷ cs) h l e = go (digit c) refl (λ d f g. number_below n (a * base + d) (i + 1) v cs (power_more base a i d h (below c d f)) (omega arith) g) e
    where
      go : (o : Option ℕ) → digit c ≡ o → ((d : ℕ) → digit c ≡ Some d → number_after digit base (a * base + d) cs ≡ Some v → v < base ^ n) → elim o [ Some d ↦ number_after digit base (a * base + d) cs | None ↦ None ] ≡ Some v → v < base ^ n
      go (Some d) f k e = k d f e
      go None f k e = cc

  -- a text of 1 to n digits, where the machine holds each number of n digits
  pub sized_is : (n : ℕ) (t : List ℕ) (r : Option ℕ) → base ^ n < 2 ^ 64 → 0 < length t → length t ≤ n → r ≡ capped_after digit base 0 t → (r ≡ number_of digit base n t) × IfSome r (λ v. v < base ^ n)
  sized_is n t r p s l e = rw (lt-ltb 0 (length t) s, le-leb (length t) n l) (go (number_after digit base 0 t) refl e)
    where
      go : (o : Option ℕ) → number_after digit base 0 t ≡ o → r ≡ option_map capped o → (r ≡ o) × IfSome r (λ v. v < base ^ n)
      go None h e = rw e (refl, tt)
      go (Some v) h e =
          let b : v < base ^ n = number_below n 0 0 v t (omega (arith, pow-zero base)) (omega arith) h in
          let q : capped v ≡ v = omega arith in
          rw (e, q) (refl, b)

pub hex_lt : (c d : ℕ) → Some d ≡ hex_digit c → d < 16
hex_lt c d e = grind (arith, nat_tests)

pub dec_digit_lt : (c d : ℕ) → Some d ≡ dec_digit_of c → d < 10
dec_digit_lt c d e = grind (arith, nat_tests)
