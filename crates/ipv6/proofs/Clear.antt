-- Addresses, prefixes and decimals have no space and are not empty; the bounds of what they say.
use Rattle.std.proofs.Common.{◌≡◌, ℕ, zero, suc, ◌%◌, ◌^◌, ◌<◌, ◌≤◌, List, [], ◌∷◌, ◌++◌, length, replicate, None, sym, refl, ap, ◌∙◌, subst, arith, rules, lit<, length-append}
use native.Mathlib.Nat.{pow-le-pow_right}
use Rattle.std.specs.Int.Digits.{number_from_digits, AllBelowBase}
use Rattle.std.proofs.lemmas.Int.Digits.{number_lt}
use Rattle.std.proofs.lemmas.List.{length-replicate}
use Rattle.std.proofs.lemmas.Bool.{ne_eqb}
use Rattle.text.specs.Hexadecimal.{hex_digit}
use Rattle.text.specs.Written.{DecDigit, HexDigit, figure, small, capital, Digits, none, more, Group, Decimal}
use Rattle.text.proofs.Clears.{Without, without_append}
use Rattle.text.proofs.Spelled.{nothing, hex_to}
use Rattle.address.specs.declared.prefix.Prefix.{Prefix}
use Rattle.address.specs.Grammar.{Joined, Side, Spells, full, short, Spelling, PrefixText, whole, sized}
use Rattle.address.specs.Grammar as grammar
use Rattle.address.proofs.Prefixes.{spells_without}
use Rattle.kind.specs.declared.rule.Action.{Action}
use Rattle.kind.specs.declared.rule.Action.TheVariants.{Block, Pass}
use Rattle.kind.specs.Actions.{action_word}
use Rattle.bits.specs.Frames.{counting}
use Rattle.bits.proofs.Agreeing.{Kept}

figures_without : (c : ℕ) → hex_digit c ≡ None → {t ds : List ℕ} → Digits DecDigit t ds → Without c t
figures_without c n none = tt
figures_without c n (more x d cs ds h r) = (ne_eqb x c (λ e. nothing (sym n ∙ ap hex_digit (sym e) ∙ hex_to x d (figure x d h))), figures_without c n r)

-- no space
pub decimal_clear : {t : List ℕ} {v : ℕ} → Decimal t v → Without 32 t
decimal_clear n = figures_without 32 refl n.writes.digits

pub prefix_clear : {t : List ℕ} {x : Prefix} → PrefixText t x → Without 32 t
prefix_clear (whole t a s) = spells_without 32 refl refl s.spells
prefix_clear (sized t d a k s n l z) = without_append 32 t (47 ∷ d) (spells_without 32 refl refl s.spells) (refl, decimal_clear n)

pub word_clear : (a : Action) → Without 32 (action_word a)
word_clear Block = search rules
word_clear Pass = search rules

-- some byte
joined_some : {t vs : List ℕ} → Joined t vs → 0 < length t
joined_some (grammar.one t v g) = g.some
joined_some (grammar.more t ts v vs g j) = omega (arith, g.some, length-append t (58 ∷ ts))

spells_some : {t gs : List ℕ} → Spells t gs → 0 < length t
spells_some (full t vs j l) = joined_some j
spells_some (short l ls r rs n a b m k) = omega (arith, length-append l (58 ∷ 58 ∷ r))

pub prefix_some : {t : List ℕ} {x : Prefix} → PrefixText t x → 0 < length t
prefix_some (whole t a s) = spells_some s.spells
prefix_some (sized t d a k s n l z) = omega (arith, length-append t (47 ∷ d))

pub word_some : (a : Action) → 0 < length (action_word a)
word_some Block = omega arith
word_some Pass = omega arith

-- a group has 16 bits, and an address 128
hex_below : {c d : ℕ} → HexDigit c d → d < 16
hex_below (figure c d h) = omega (arith, h.below)
hex_below (small c d e l) = omega arith
hex_below (capital c d e l) = omega arith

record Below (t ds : List ℕ) : Type 0 where
  under : AllBelowBase 16 ds
  as_long : length ds ≡ length t

digits_below : {t ds : List ℕ} → Digits HexDigit t ds → Below t ds
digits_below none = record { under = tt; as_long = refl }
digits_below (more c d cs ds h r) = let b = digits_below r in record { under = (hex_below h, b.under); as_long = ap suc b.as_long }

group_below : {t : List ℕ} {v : ℕ} → Group t v → v < 65536
group_below g =
    let b = digits_below g.digits in
    let p : 16 ^ length g.values ≤ 16 ^ 4 = let l : length g.values ≤ 4 = omega (arith, b.as_long, g.few) in pow-le-pow_right (lit< tt) {j = 4} l in
    omega (arith, number_lt 16 g.values b.under, p, g.value)

joined_below : {t vs : List ℕ} → Joined t vs → AllBelowBase 65536 vs
joined_below (grammar.one t v g) = (group_below g, tt)
joined_below (grammar.more t ts v vs g j) = (group_below g, joined_below j)

side_below : {t vs : List ℕ} → Side t vs → AllBelowBase 65536 vs
side_below grammar.none = tt
side_below (grammar.some t vs j) = joined_below j

under_append : (xs ys : List ℕ) → AllBelowBase 65536 xs → AllBelowBase 65536 ys → AllBelowBase 65536 (xs ++ ys)
under_append [] ys h g = g
under_append (x ∷ xs) ys h g = (h.0, under_append xs ys h.1 g)

zeros_below : (n : ℕ) → AllBelowBase 65536 (replicate n 0)
zeros_below zero = tt
zeros_below (suc n) = (lit< tt, zeros_below n)

eight_below : (gs : List ℕ) → AllBelowBase 65536 gs → length gs ≡ 8 → number_from_digits 65536 gs < 2 ^ 128
eight_below gs u l = subst (λ n. number_from_digits 65536 gs < 65536 ^ n) l (number_lt 65536 gs u)

spells_below : {t gs : List ℕ} → Spells t gs → number_from_digits 65536 gs < 2 ^ 128
spells_below (full t vs j l) = eight_below vs (joined_below j) l
spells_below (short l ls r rs n a b m k) =
    eight_below (ls ++ (replicate n 0 ++ rs)) (under_append ls (replicate n 0 ++ rs) (side_below a) (under_append (replicate n 0) rs (zeros_below n) (side_below b)))
    (simp (length-append, length-replicate) k)

spelling_below : {t : List ℕ} {a : ℕ} → Spelling t a → a < 2 ^ 128
spelling_below s = rw s.value (spells_below s.spells)

-- what a prefix text says
pub record Bounded (x : Prefix) : Type 0 where
  pub address : x.address < 2 ^ 128
  pub length : counting x.length ≤ 128
  pub kept : Kept x.address x.length

pub prefix_bounded : {t : List ℕ} {x : Prefix} → PrefixText t x → Bounded x
prefix_bounded (whole t a s) = record { address = spelling_below s; length = omega arith; kept = let e : a % 1 ≡ 0 = omega arith in e }
prefix_bounded (sized t d a k s n l z) = record { address = spelling_below s; length = l; kept = z }
