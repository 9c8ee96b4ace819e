-- Reading groups one after another.
use Rattle.std.proofs.Common.{◌≡◌, ℕ, zero, suc, ◌+◌, ◌-◌, ◌*◌, ◌^◌, ◌<◌, ◌≤◌, min, false, cond, List, [], ◌∷◌, ◌++◌, length, get_or, drop, replicate, Ok, Err, Result, sym, refl, ap, ◌∙◌, subst, append_assoc, add-zero, mul_assoc, add-mul, mul-one, arith}
use native.Mathlib.Nat.{pow-succ', pow-zero}
use Rattle.std.specs.Int.Digits.{number_from_digits, number_from_digits_after}
use Rattle.std.proofs.lemmas.Nat.{pow-add}
use Rattle.std.proofs.lemmas.Int.Digits.{number_push, number_after_append}
use Rattle.std.proofs.lemmas.List.{length_push, drop_more}
use Rattle.std.proofs.lemmas.Bool.{le-leb}
use Rattle.text.specs.Split.{Part, split}
use Rattle.address.specs.declared.fault.GroupFault.{GroupFault}
use Rattle.address.specs.declared.groups.Groups.{Groups}
use Rattle.address.specs.Address.{group_at, with_first, first_then, groups, opens_gap, before_gap_of, side, gapped, numbered}
use Rattle.address.specs.Gathered.{Tally, Gathered}

-- the values before what comes
abbrev with_front : List ℕ → Result (List ℕ) GroupFault → Result (List ℕ) GroupFault
with_front vs (Ok ws) = Ok (vs ++ ws)
with_front vs (Err e) = Err e

-- the groups of some pieces when all but the rest have been read
pub record Sofar (g : Groups) (rest all : List Part) : Type 0 where
  pub items : List ℕ
  pub tally : Tally g items
  pub whole : groups all ≡ with_front items (groups rest)

front_push : (vs : List ℕ) (v : ℕ) (r : Result (List ℕ) GroupFault) → with_front vs (with_first v r) ≡ with_front (vs ++ v ∷ []) r
front_push vs v (Ok ws) = ap Ok (sym (append_assoc vs (v ∷ []) ws))
front_push vs v (Err e) = refl

groups_ok : (f : Part) (fs : List Part) (v : ℕ) → Ok v ≡ group_at f → groups (f ∷ fs) ≡ with_first v (groups fs)
groups_ok f fs v e = ap (λ o. first_then o (groups fs)) (sym e)

tally_push : (g h : Groups) (gs : List ℕ) (v : ℕ) → Tally g gs → (g.count < 8 → h.value ≡ g.value * 65536 + v) → h.count ≡ min (g.count + 1) 9 → Tally h (gs ++ v ∷ [])
tally_push g h gs v t e n = record {
  count = omega (arith, length_push gs v, t.count);
  value = λ l. let m : length gs < 8 = omega (arith, length_push gs v) in e (omega (arith, t.count)) ∙ ap (λ x. x * 65536 + v) (t.value (omega arith)) ∙ sym (number_push 65536 gs v);
}

pub sofar_more : (g h : Groups) (rest all more : List Part) (f : Part) (v : ℕ) → Sofar g rest all → rest ≡ f ∷ more → Ok v ≡ group_at f → (g.count < 8 → h.value ≡ g.value * 65536 + v) → h.count ≡ min (g.count + 1) 9 → Sofar h more all
sofar_more g h rest all more f v s r o e n = record {
  items = s.items ++ v ∷ [];
  tally = tally_push g h s.items v s.tally e n;
  whole = s.whole ∙ ap (λ x. with_front s.items (groups x)) r ∙ ap (with_front s.items) (groups_ok f more v o) ∙ front_push s.items v (groups more);
}

-- no gap opens here
pub gap_more : (xs : List ℕ) (i : ℕ) → i < length xs → false ≡ opens_gap (drop i xs) → before_gap_of (drop i xs) ≡ suc (before_gap_of (drop (i + 1) xs))
gap_more xs i h e =
    let d = drop_more xs i 0 h in
    let f : false ≡ opens_gap (get_or xs i 0 ∷ drop (i + 1) xs) = e ∙ ap opens_gap d in
    ap before_gap_of d ∙ subst (λ b. cond b 0 (suc (before_gap_of (drop (i + 1) xs))) ≡ suc (before_gap_of (drop (i + 1) xs))) f refl

-- a side that is not empty
pub side_some : (text : List ℕ) (i : ℕ) → i < length text → side i (drop i text) ≡ split 58 i (drop i text)
side_some text i h = let d = drop_more text i 0 h in ap (side i) d ∙ ap (split 58 i) (sym d)

number_zeros : (b v n : ℕ) → number_from_digits_after b v (replicate n 0) ≡ v * b ^ n
number_zeros b v zero = rw (pow-zero, mul-one) refl
number_zeros b v (suc n) = number_zeros b (v * b + 0) n ∙ rw (add-zero, mul_assoc, pow-succ') refl

number_from : (b v : ℕ) (ds : List ℕ) → number_from_digits_after b v ds ≡ v * b ^ length ds + number_from_digits b ds
number_from b v [] = rw (pow-zero, mul-one, add-zero) refl
number_from b v (d ∷ ds) =
    let p : (v * b + d) * b ^ length ds ≡ v * (b * b ^ length ds) + d * b ^ length ds = add-mul (v * b) d (b ^ length ds) ∙ ap (λ n. n + d * b ^ length ds) (mul_assoc v b (b ^ length ds)) in
    let q : (0 * b + d) * b ^ length ds ≡ d * b ^ length ds = ap (λ n. n * b ^ length ds) (omega arith) in
    number_from b (v * b + d) ds ∙ rw (pow-succ') (omega (arith, p, q, number_from b (0 * b + d) ds))

number_gap : (b : ℕ) (ls rs : List ℕ) (n : ℕ) → number_from_digits b (ls ++ (replicate n 0 ++ rs)) ≡ number_from_digits b ls * b ^ (n + length rs) + number_from_digits b rs
number_gap b ls rs n =
    number_after_append b 0 ls (replicate n 0 ++ rs) ∙ number_after_append b (number_from_digits b ls) (replicate n 0) rs ∙ ap (λ v. number_from_digits_after b v rs) (number_zeros b (number_from_digits b ls) n)
    ∙ number_from b (number_from_digits b ls * b ^ n) rs ∙ ap (λ v. v + number_from_digits b rs) (mul_assoc (number_from_digits b ls) (b ^ n) (b ^ length rs) ∙ ap (λ v. number_from_digits b ls * v) (sym (pow-add b n (length rs))))

gap_of : (f b : Groups) (ls rs : List ℕ) (r : ℕ) → Tally f ls → Tally b rs → f.count + b.count ≤ 7 → r ≡ f.value * 65536 ^ (8 - f.count) + b.value → Ok r ≡ numbered (gapped (Ok ls) (Ok rs))
gap_of f b ls rs r s t h e =
    let m : length ls ≡ f.count = omega (arith, s.count, t.count) in
    let n : length rs ≡ b.count = omega (arith, s.count, t.count) in
    let k : 8 - (length ls + length rs) + length rs ≡ 8 - f.count = omega arith in
    let u : r ≡ number_from_digits 65536 (ls ++ (replicate (8 - (length ls + length rs)) 0 ++ rs)) =
    e ∙ rw (s.value (omega arith), t.value (omega arith), ← k) (sym (number_gap 65536 ls rs (8 - (length ls + length rs)))) in
    rw (le-leb (length ls + length rs) 7 (omega arith)) (ap Ok u)

pub gap_ok : (f b : Groups) (x y : Result (List ℕ) GroupFault) (r : ℕ) → Gathered f x → Gathered b y → f.count + b.count ≤ 7 → r ≡ f.value * 65536 ^ (8 - f.count) + b.value → Ok r ≡ numbered (gapped x y)
gap_ok f b x y r s t h e = rw (s.are, t.are) (gap_of f b s.items t.items r s.tally t.tally h e)
