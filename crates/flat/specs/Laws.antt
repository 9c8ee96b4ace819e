-- The law of the flat kind.
use Rattle.std.specs.Prelude.{◌≡◌, ℕ, zero, suc, ◌+◌, ◌-◌, ◌*◌, ◌/◌, ◌%◌, ◌^◌, ◌<◌, ◌≤◌, Bool, true, false, cond, ◌⊎◌, List, [], ◌∷◌, length, replicate, Some, None, Ok, Err, Option, Result, ◌==◌, nat_lt, slice_index, refl}
use Rattle.std.proofs.Common.{ap, ◌∙◌, inl, inr, arith, lit<, lit≤}
use Rattle.std.proofs.Math.Nat.{zero-div}
use Rattle.std.proofs.lemmas.Bool.{cases_lt, lt-ltb, ltb-true}
use Rattle.engine.specs.Ops.{Bits, Agree, bit_at}
use Rattle.text.specs.declared.fault.LineFault.{LineFault}
use Rattle.text.specs.Split.{Part}
use Rattle.text.specs.Lines.{Parts, line_fields}
use Rattle.kind.specs.declared.rule.Action.{Action}
use Rattle.kind.specs.declared.rule.Rule.{Rule}
use Rattle.kind.specs.declared.fault.FlatFault.{FlatFault}
use Rattle.kind.specs.declared.fault.FrameFault.{FrameFault}
use Rattle.kind.specs.declared.fault.FrameFault.TheVariants.{Wrong}
use Rattle.kind.specs.Actions.{action_of}
use Rattle.kind.specs.Kinds.{Lawful, Bytes}
use Rattle.flat.specs.declared.pick.Pick.{Pick}
use Rattle.flat.specs.Picks.{pick_of, counted}
use Rattle.flat.specs.Frames.{first, frame_bits, flat_byte}
use Rattle.flat.specs.Lines.{rule_of, ruled, with_third, unless_fault, flat_rule}
use Rattle.flat.specs.Reading.{flat}
use Rattle.flat.specs.Spelling.{spelt, byte_below, byte_bits}

only : (s t : Bits) → Agree 6 s t → flat_byte s ∷ [] ≡ flat_byte t ∷ []
only s t h = rw (h 1 (lit≤ tt) (lit≤ tt), h 2 (lit≤ tt) (lit≤ tt), h 3 (lit≤ tt) (lit≤ tt), h 4 (lit≤ tt) (lit≤ tt), h 5 (lit≤ tt) (lit≤ tt), h 6 (lit≤ tt) (lit≤ tt)) refl

whole : (s : Bits) → Bytes (flat_byte s ∷ [])
whole s zero = omega (arith, byte_below s)
whole s (suc i) = lit< tt

back : (frame s : List ℕ) → frame_bits frame ≡ Ok s → flat_byte (bit_at s) ∷ [] ≡ frame
back [] s e = cc
back (b ∷ c ∷ bs) s e = cc
back (b ∷ []) s e = go (nat_lt b 64) refl e
  where
    go : (q : Bool) → nat_lt b 64 ≡ q → ◌≡◌ {A = Result (List ℕ) FrameFault} (cond q (Ok (first (b * 4))) (Err Wrong)) (Ok s) → flat_byte (bit_at s) ∷ [] ≡ b ∷ []
    go true h k =
        let l : b < 64 = ltb-true b 64 h in
        let z : s ≡ first (b * 4) = cc in
        let y : b * 4 / 4 ≡ b = omega arith in
        ap (λ (t : List ℕ). flat_byte (bit_at t) ∷ []) z ∙ ap (λ (x : ℕ). x ∷ []) (spelt (first (b * 4)) (omega arith) ∙ y)
    go false h k = cc

-- a bit after the sixth of a byte whose two lowest bits are 0, and 17 bytes of 0
late : (x v : ℕ) → x % 4 ≡ 0 → 6 < v → bit_at (first x) v ≡ false
late x v e l = go (cases_lt 8 v)
  where
    none : (k i : ℕ) → ◌≡◌ {A = ℕ} (slice_index (replicate k 0) i) 0
    none zero i = refl
    none (suc k) zero = refl
    none (suc k) (suc i) = none k i

    zero_bit : (y : ℕ) → y ≡ 0 → (y == 1) ≡ false
    zero_bit y p = rw p refl

    go : (8 < v) ⊎ (v ≤ 8) → bit_at (first x) v ≡ false
    go (inl p) =
        let k : ℕ = (v - 1) / 8 - 1 in
        let i : (v - 1) / 8 ≡ suc k = omega arith in
        rw (i, none 17 k, zero-div (2 ^ (7 - (v - 1) % 8))) refl
    go (inr p) = elim (cases_lt 7 v) [ inl q ↦ (let w : v ≡ 8 = omega arith in rw w (zero_bit (x / 1 % 2) (omega arith))) | inr q ↦ (let w : v ≡ 7 = omega arith in rw w (zero_bit (x / 2 % 2) (omega arith))) ]

cares : (line : List ℕ) (r : Rule) → flat_rule line ≡ Ok r → (v : ℕ) → 6 < v → bit_at r.care v ≡ false
cares line r e v l = from_line (length line) (line_fields line) e
  where
    from_picks : (a : Result Action LineFault) (x y : Result Pick FlatFault) → ruled a x y ≡ Ok r → bit_at r.care v ≡ false
    from_picks (Err f) x y e = cc
    from_picks (Ok a) (Err f) y e = cc
    from_picks (Ok a) (Ok x) (Err f) e = cc
    from_picks (Ok a) (Ok x) (Ok y) e =
        let z : r ≡ rule_of a x y = cc in
        ap (λ (s : Rule). bit_at s.care v) z ∙ late (counted x * 32 + counted y * 4) v (omega arith) l

    from_parts : (n : ℕ) (a b : Part) (c : Option Part) → with_third n a b c ≡ Ok r → bit_at r.care v ≡ false
    from_parts n a b None e = cc
    from_parts n a b (Some c) e = from_picks (action_of a.text a.place) (pick_of b.text b.place) (pick_of c.text c.place) e

    from_line : (n : ℕ) (p : Result Parts LineFault) → unless_fault n p ≡ Ok r → bit_at r.care v ≡ false
    from_line n (Err f) e = cc
    from_line n (Ok p) e = from_parts n p.action p.second p.third e

pub flat_lawful : Lawful flat
flat_lawful = record {
  some = lit≤ tt;
  few = lit≤ tt;
  short = lit≤ tt;
  cares = cares;
  only = only;
  sized = λ s. refl;
  whole = whole;
  forth = λ s. (first (flat_byte s * 4), rw (lt-ltb (flat_byte s) 64 (byte_below s)) refl, byte_bits s);
  back = λ frame s b. back frame s;
}
