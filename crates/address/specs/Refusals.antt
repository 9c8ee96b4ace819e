-- Which fault an address text or a prefix text has.
use Rattle.std.specs.Prelude.{◌≡◌, ℕ, ◌+◌, ◌-◌, ◌%◌, ◌^◌, ◌<◌, ◌≤◌, Bool, true, false, cond, List, [], ◌∷◌, ◌++◌, length, take, drop, Err, Result, ◌≢◌, nat_lt}
use Rattle.text.specs.Split.{Part, before, split}
use Rattle.text.specs.Written.{Group, Decimal}
use Rattle.address.specs.declared.fault.GroupFault.TheVariants.{Piece}
use Rattle.address.specs.declared.fault.PrefixFault.TheVariants.{Length, Stray}
use Rattle.address.specs.declared.fault.AddressFault.{AddressFault}
use Rattle.address.specs.declared.fault.AddressFault.TheVariants as fault
use Rattle.address.specs.Address.{before_gap_of, side}
use Rattle.address.specs.Faults.{moved}
use Rattle.address.specs.Grammar.{Spelling}

-- the text has a `::`
abbrev pub has_gap : List ℕ → Bool
has_gap text = nat_lt (before_gap_of text) (length text)

-- the pieces of an address text, each with its place: those before its first `::` and those after it, or all
abbrev pub pieces : List ℕ → List Part
pieces text = cond (has_gap text) (side 0 (take (before_gap_of text) text) ++ side (before_gap_of text + 2) (drop (before_gap_of text + 2) text)) (split 58 0 text)

-- the pieces are groups of these values
pub data Values : List Part → List ℕ → Type 0 where
  none : Values [] []
  more : (f : Part) (fs : List Part) (v : ℕ) (vs : List ℕ) → Group f.text v → Values fs vs → Values (f ∷ fs) (v ∷ vs)

-- the first piece that is no group begins at this place
pub data FirstBad : List Part → ℕ → Type 0 where
  here : (f : Part) (fs : List Part) → ((v : ℕ) → Group f.text v → ⊥) → FirstBad (f ∷ fs) f.place
  later : (f : Part) (fs : List Part) (v p : ℕ) → Group f.text v → FirstBad fs p → FirstBad (f ∷ fs) p

-- with `::` there are over seven groups, without it not eight
abbrev pub Miscounted : Bool → ℕ → Type 0
Miscounted true n = 7 < n
Miscounted false n = n ≡ 8 → ⊥

-- the fault of an address text: a piece that is no group, else the number of groups
pub data AddressRefused (text : List ℕ) : AddressFault → Type 0 where
  no_group : (p : ℕ) → FirstBad (pieces text) p → AddressRefused text (fault.Group (Piece p))
  miscounted : (vs : List ℕ) → Values (pieces text) vs → Miscounted (has_gap text) (length vs) → AddressRefused text (fault.Count 0)

-- the answer is a fault exactly where the relation holds of one, and is that fault
abbrev pub Refuses : {T E : Type 0} → Result T E → (E → Type 0) → Type 0
Refuses {T} {E} r R = (e : E) → (r ≡ Err e → R e) × (R e → r ≡ Err e)

-- the text before the first `/`; all of it where there is none
abbrev pub address_text : List ℕ → List ℕ
address_text text = take (before 47 text) text

-- the text after the first `/`
abbrev pub length_text : List ℕ → List ℕ
length_text text = drop (before 47 text + 1) text

-- the fault of a prefix text: that of its address; else a length that is no number 0 to 128; else a bit set past it
pub data PrefixRefused (text : List ℕ) : AddressFault → Type 0 where
  no_address : (f : AddressFault) → AddressRefused (address_text text) f → PrefixRefused text f
  no_length : (a : ℕ) → Spelling (address_text text) a → before 47 text < length text → ((k : ℕ) → Decimal (length_text text) k → k ≤ 128 → ⊥) → PrefixRefused text (fault.Prefix (Length (before 47 text + 1)))
  stray : (a k : ℕ) → Spelling (address_text text) a → before 47 text < length text → Decimal (length_text text) k → k ≤ 128 → (a % 2 ^ (128 - k) ≢ 0) → PrefixRefused text (fault.Prefix (Stray 0))

-- the same for a text that begins at `start` of a line, with places in the line
pub record RefusedAt (start : ℕ) (text : List ℕ) (f : AddressFault) : Type 0 where
  pub of_text : AddressFault
  pub refused : PrefixRefused text of_text
  pub in_line : f ≡ moved start of_text
