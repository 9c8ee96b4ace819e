-- The law of the IPv6 kind.
use Rattle.std.specs.Prelude.{◌≡◌, ℕ, ◌+◌, ◌<◌, ◌≤◌, false, List, [], ◌∷◌, ◌++◌, length, take, Ok, Err, Result, slice_index, slice_set, refl}
use Rattle.std.proofs.Common.{sym, ap, subst, ◌∙◌, append-nil, ⊎_elim, arith, lit<, lit≤}
use Rattle.std.proofs.lemmas.List.{at_drop_all, take_all, take_more, take_more_set, get_or_past}
use Rattle.std.proofs.lemmas.Bool.{eq-eqb, cases_lt}
use Rattle.engine.specs.Ops.{bit_at}
use Rattle.kind.specs.declared.rule.Rule.{Rule}
use Rattle.kind.specs.declared.fault.RuleFault.{RuleFault}
use Rattle.kind.specs.Kinds.{Lawful, Bytes, over}
use Rattle.bits.specs.Frames.{frame_of, value_bytes, care_bytes}
use Rattle.bits.proofs.Bytes.{late}
use Rattle.bits.proofs.Framing.{frame_length, frame_small, frame_only, frame_forth, frame_back}
use Rattle.ipv6.specs.declared.said.Said.{Said}
use Rattle.ipv6.specs.Rules.{rule_of}
use Rattle.ipv6.specs.Lines.{ruled, line_said, ipv6_rule}
use Rattle.ipv6.specs.Reading.{frame_bits, ipv6}
use Rattle.std.proofs.lemmas.Bool.Decides.{nat_tests}

cares : (line : List ℕ) (r : Rule) → ipv6_rule line ≡ Ok r → (v : ℕ) → 144 < v → bit_at r.care v ≡ false
cares line r e v l = go (line_said line) e
  where
    go : (a : Result Said RuleFault) → ruled a ≡ Ok r → bit_at r.care v ≡ false
    go (Err f) e = cc
    go (Ok s) e = let z : r ≡ rule_of s = cc in rw z (late 18 _ v l)

turned : (frame s : List ℕ) → frame_bits frame ≡ Ok s → (length frame ≡ 18) × (frame ≡ s)
turned frame s e = grind (arith, nat_tests)

back : (frame s : List ℕ) → Bytes frame → frame_bits frame ≡ Ok s → frame_of (bit_at s) ≡ frame
back frame s b e = let t = turned frame s e in rw (← t.1) (frame_back frame t.0 b)

pub ipv6_lawful : Lawful ipv6
ipv6_lawful = record {
  some = lit≤ tt;
  few = lit≤ tt;
  short = lit≤ tt;
  cares = cares;
  only = frame_only;
  sized = frame_length;
  whole = frame_small;
  forth = λ s. (frame_of s, rw (eq-eqb (length (frame_of s)) 18 (frame_length s)) refl, frame_forth s);
  back = back;
}

-- a place into which the bytes of some bits are copied holds their frame
pub copied : (bits was place : List ℕ) → place ≡ bits → length bits ≡ 18 → length was ≤ 18 → Bytes bits → place ≡ over (frame_of (bit_at bits)) was
copied bits was place s b w h =
    let o : over bits was ≡ bits = at_drop_all (λ x. bits ++ x) was (length bits) (omega arith) ∙ append-nil bits in
    s ∙ sym (ap (λ f. over f was) (frame_back bits b h) ∙ o)

-- a rule by its bits
pub rule_is : (s : Said) (v k : List ℕ) → v ≡ value_bytes s.prefix.address s.port → k ≡ care_bytes s.prefix.length s.port → record { action = s.action; value = v; care = k } ≡ rule_of s
rule_is s v k e f = rw (e, f) refl

-- the numbers before place i are bytes
abbrev pub Small : List ℕ → ℕ → Type 0
Small s i = (j : ℕ) → j < i → slice_index s j < 256

pub small_more : (s : List ℕ) (i : ℕ) → Small s i → slice_index s i < 256 → Small s (i + 1)
small_more s i h g j l = ⊎_elim (λ m. h j m) (λ m. let e : i ≡ j = omega arith in subst (λ k. slice_index s k < 256) e g) (cases_lt j i)

-- one byte more is copied
pub copied_more : (bits place : List ℕ) (i : ℕ) → i < length bits → i < length place → take i place ≡ take i bits → take (i + 1) (slice_set place i (slice_index bits i)) ≡ take (i + 1) bits
copied_more bits place i h g e = take_more_set place i (slice_index bits i) g ∙ ap (λ xs. xs ++ (slice_index bits i ∷ [])) e ∙ sym (take_more bits i 0 h)

all_small : (s : List ℕ) (n : ℕ) → length s ≤ n → Small s n → Bytes s
all_small s n l h j = ⊎_elim (λ m. h j m) (λ m. subst (λ x. x < 256) (sym (get_or_past s j 0 (omega arith))) (lit< tt)) (cases_lt j n)

-- a place into which all bytes of some bits are copied holds their frame
pub filled : (bits was place : List ℕ) (n : ℕ) → n ≡ 18 → length bits ≡ 18 → length was ≤ 18 → length place ≡ 18 → take n place ≡ take n bits → Small bits n → place ≡ over (frame_of (bit_at bits)) was
filled bits was place n z b w p e h =
    let s : place ≡ bits = sym (take_all n place (omega arith)) ∙ e ∙ take_all n bits (omega arith) in
    let o : over bits was ≡ bits = at_drop_all (λ x. bits ++ x) was (length bits) (omega arith) ∙ append-nil bits in
    s ∙ sym (ap (λ f. over f was) (frame_back bits b (all_small bits n (omega arith) h)) ∙ o)
