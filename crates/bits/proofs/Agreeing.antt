-- What a rule for an address, a length and a port matches.
use Rattle.std.proofs.Common.{◌≡◌, ℕ, ◌+◌, ◌-◌, ◌*◌, ◌/◌, ◌%◌, ◌^◌, ◌<◌, ◌≤◌, true, false, eqb, leb, List, Some, None, Option, sym, refl, ap, ◌∙◌, subst, ⊎_elim, arith}
use Rattle.std.proofs.lemmas.Nat.{shr-shr, shr_below}
use Rattle.std.proofs.lemmas.Bool.{le-leb, leb-true, cases_lt}
use Rattle.engine.specs.Ops.{bit_at}
use Rattle.bits.specs.Frames.{frame_bytes, counting, given, PortIs, value_bytes, care_bytes}
use Rattle.bits.proofs.Spelt.{bit_of, same_bits}
use Rattle.bits.proofs.Bytes.{bit_bytes}
use Rattle.bits.proofs.Counting.{upper, lower, is_given, no_bit, address_care, port_counts, kept_bit}

-- the frame has the value's bits wherever they count
abbrev pub Agrees : List ℕ → List ℕ → List ℕ → Type 0
Agrees value care frame = (v : ℕ) → 1 ≤ v → v ≤ 144 → bit_at care v ≡ true → bit_at frame v ≡ bit_at value v

-- the port that is given is one
abbrev pub Fits : Option ℕ → Type 0
Fits None = Unit {0}
Fits (Some p) = p ≤ 65535

given_fits : (q : Option ℕ) → Fits q → given q < 65536
given_fits None h = omega arith
given_fits (Some p) h = omega arith

-- the first k bits of a number of 128 bits
first_of : (a k i : ℕ) → k ≤ 128 → i ≤ k → bit_of k (a / 2 ^ (128 - k)) i ≡ bit_of 128 a i
first_of a k i h l =
    let e : 128 - k + (k - i) ≡ 128 - i = omega arith in
    ap (λ x. eqb (x % 2) 1) (shr-shr a (128 - k) (k - i) ∙ ap (λ m. a / 2 ^ m) e)

first_below : (a k : ℕ) → a < 2 ^ 128 → k ≤ 128 → a / 2 ^ (128 - k) < 2 ^ k
first_below a k h l =
    let e : k + (128 - k) ≡ 128 = omega arith in
    shr_below a k (128 - k) (subst (λ m. a < 2 ^ m) (sym e) h)

-- the frame is that of an address b and a port y, the rule that of an address a, a length and a port
module _ (a b y : ℕ) (k q : Option ℕ) (fit : Fits q) (most : counting k ≤ 128) (below : y < 65536) where
  value_upper : (i : ℕ) → 1 ≤ i → i ≤ 128 → bit_at (value_bytes a q) i ≡ bit_of 128 a i
  value_upper i l h = bit_bytes 18 (a * 65536 + given q) i l (omega arith) ∙ upper a (given q) i (given_fits q fit) h

  value_lower : (i : ℕ) → 128 < i → i ≤ 144 → bit_at (value_bytes a q) i ≡ bit_of 16 (given q) (i - 128)
  value_lower i l h = bit_bytes 18 (a * 65536 + given q) i (omega arith) h ∙ lower a (given q) i l h

  frame_upper : (i : ℕ) → 1 ≤ i → i ≤ 128 → bit_at (frame_bytes b y) i ≡ bit_of 128 b i
  frame_upper i l h = bit_bytes 18 (b * 65536 + y) i l (omega arith) ∙ upper b y i below h

  frame_lower : (i : ℕ) → 128 < i → i ≤ 144 → bit_at (frame_bytes b y) i ≡ bit_of 16 y (i - 128)
  frame_lower i l h = bit_bytes 18 (b * 65536 + y) i (omega arith) h ∙ lower b y i l h

  -- a rule that matches has the address's first bits
  pub address_from : a < 2 ^ 128 → b < 2 ^ 128 → Agrees (value_bytes a q) (care_bytes k q) (frame_bytes b y) → b / 2 ^ (128 - counting k) ≡ a / 2 ^ (128 - counting k)
  address_from ha hb h = same_bits (counting k) (b / 2 ^ (128 - counting k)) (a / 2 ^ (128 - counting k)) (first_below b (counting k) hb most) (first_below a (counting k) ha most) one
    where
      one : (i : ℕ) → 1 ≤ i → i ≤ counting k → bit_of (counting k) (b / 2 ^ (128 - counting k)) i ≡ bit_of (counting k) (a / 2 ^ (128 - counting k)) i
      one i l m =
          let w : i ≤ 128 = omega arith in
          let c : bit_at (care_bytes k q) i ≡ true = address_care k q i most l w ∙ le-leb i (counting k) m in
          first_of b (counting k) i most m ∙ sym (frame_upper i l w) ∙ h i l (omega arith) c ∙ value_upper i l w ∙ sym (first_of a (counting k) i most m)

  -- and its port
  low_from : Agrees (value_bytes a q) (care_bytes k q) (frame_bytes b y) → is_given q ≡ true → y ≡ given q
  low_from h g = same_bits 16 y (given q) below (given_fits q fit) one
    where
      one : (i : ℕ) → 1 ≤ i → i ≤ 16 → bit_of 16 y i ≡ bit_of 16 (given q) i
      one i l m =
          let e : 128 + i - 128 ≡ i = omega arith in
          let f : 128 < 128 + i = omega arith in
          let u : 128 + i ≤ 144 = omega arith in
          ap (bit_of 16 y) (sym e) ∙ sym (frame_lower (128 + i) f u) ∙ h (128 + i) (omega arith) u (port_counts k q (128 + i) f u ∙ g) ∙ value_lower (128 + i) f u ∙ ap (bit_of 16 (given q)) e

  -- the same first bits and the same port make a match
  pub agrees_to : b / 2 ^ (128 - counting k) ≡ a / 2 ^ (128 - counting k) → (is_given q ≡ true → y ≡ given q) → Agrees (value_bytes a q) (care_bytes k q) (frame_bytes b y)
  agrees_to e g i l h c = ⊎_elim (λ w. ports w) (λ w. addresses w) (cases_lt 128 i)
    where
      ports : 128 < i → bit_at (frame_bytes b y) i ≡ bit_at (value_bytes a q) i
      ports w = frame_lower i w h ∙ ap (λ x. bit_of 16 x (i - 128)) (g (sym (port_counts k q i w h) ∙ c)) ∙ sym (value_lower i w h)

      addresses : i ≤ 128 → bit_at (frame_bytes b y) i ≡ bit_at (value_bytes a q) i
      addresses w =
          let m : i ≤ counting k = leb-true i (counting k) (sym (address_care k q i most l w) ∙ c) in
          frame_upper i l w ∙ sym (first_of b (counting k) i most m) ∙ ap (λ x. bit_of (counting k) x i) e ∙ first_of a (counting k) i most m ∙ sym (value_upper i l w)

-- the two halves for a port that may be given
pub port_from : (a b y : ℕ) (k q : Option ℕ) → Fits q → counting k ≤ 128 → y < 65536 → Agrees (value_bytes a q) (care_bytes k q) (frame_bytes b y) → PortIs q y
port_from a b y k None f m l h = tt
port_from a b y k (Some p) f m l h = low_from a b y k (Some p) f m l h refl

pub port_to : (q : Option ℕ) (y : ℕ) → PortIs q y → is_given q ≡ true → y ≡ given q
port_to None y h e = absurd (cc)
port_to (Some p) y h e = h

-- the address keeps no bit past the length
abbrev pub Kept : ℕ → Option ℕ → Type 0
Kept a k = a % 2 ^ (128 - counting k) ≡ 0

-- a value bit that does not count is 0
pub value_clear : (a : ℕ) (k q : Option ℕ) → Fits q → counting k ≤ 128 → Kept a k → (i : ℕ) → 1 ≤ i → i ≤ 144 → bit_at (care_bytes k q) i ≡ false → bit_at (value_bytes a q) i ≡ false
value_clear a k q f m z i l h c = ⊎_elim (λ w. ports w) (λ w. addresses w) (cases_lt 128 i)
  where
    none_given : (q : Option ℕ) → is_given q ≡ false → given q ≡ 0
    none_given None e = refl
    none_given (Some p) e = absurd (cc)

    ports : 128 < i → bit_at (value_bytes a q) i ≡ false
    ports w = value_lower a 0 0 k q f m (omega arith) i w h ∙ ap (λ x. bit_of 16 x (i - 128)) (none_given q (sym (port_counts k q i w h) ∙ c)) ∙ no_bit (i - 128)

    past : leb i (counting k) ≡ false → counting k < i
    past e = ⊎_elim (λ w. w) (λ w. absurd (let t : true ≡ false = sym (le-leb i (counting k) w) ∙ e in cc)) (cases_lt (counting k) i)

    addresses : i ≤ 128 → bit_at (value_bytes a q) i ≡ false
    addresses w = value_upper a 0 0 k q f m (omega arith) i l w ∙ ap (λ x. eqb x 1) (kept_bit 128 a (counting k) i z (past (sym (address_care k q i m l w) ∙ c)) w)
