-- Address text by its grammar (RFC 4291, section 2.2, forms 1 and 2) and prefix text (section 2.3), told without a reader.
use Rattle.std.specs.Prelude.{◌≡◌, ℕ, ◌+◌, ◌-◌, ◌%◌, ◌^◌, ◌<◌, ◌≤◌, List, [], ◌∷◌, ◌++◌, length, replicate, Some, None, Ok, Result}
use Rattle.std.specs.Int.Digits.{number_from_digits}
use Rattle.text.specs.Written.{Group, Decimal}
use Rattle.address.specs.declared.prefix.Prefix.{Prefix}

-- one or more groups with `:` between them
pub data Joined : List ℕ → List ℕ → Type 0 where
  one : (t : List ℕ) (v : ℕ) → Group t v → Joined t (v ∷ [])
  more : (t ts : List ℕ) (v : ℕ) (vs : List ℕ) → Group t v → Joined ts vs → Joined (t ++ (58 ∷ ts)) (v ∷ vs)

-- a side of `::`: nothing, or groups
pub data Side : List ℕ → List ℕ → Type 0 where
  none : Side [] []
  some : (t vs : List ℕ) → Joined t vs → Side t vs

-- the text is eight groups, or fewer beside one `::` that stands for one or more groups of zero
pub data Spells : List ℕ → List ℕ → Type 0 where
  full : (t vs : List ℕ) → Joined t vs → length vs ≡ 8 → Spells t vs
  short : (l ls r rs : List ℕ) (n : ℕ) → Side l ls → Side r rs → 0 < n → length ls + (n + length rs) ≡ 8 → Spells (l ++ (58 ∷ 58 ∷ r)) (ls ++ (replicate n 0 ++ rs))

-- the text is a spelling of these 128 bits: of eight groups of 16 bits, the highest first
pub record Spelling (text : List ℕ) (bits : ℕ) : Type 0 where
  pub groups : List ℕ
  pub spells : Spells text groups
  pub value : bits ≡ number_from_digits 65536 groups

-- the answer has a value exactly where the relation holds of one, and is that value
abbrev pub Accepts : {T E : Type 0} → Result T E → (T → Type 0) → Type 0
Accepts {T} r R = (x : T) → (r ≡ Ok x → R x) × (R x → r ≡ Ok x)

-- the text is an address with an optional `/` and length 0 to 128, past which no bit is set
pub data PrefixText : List ℕ → Prefix → Type 0 where
  whole : (t : List ℕ) (a : ℕ) → Spelling t a → PrefixText t (record { address = a; length = None })
  sized : (t d : List ℕ) (a k : ℕ) → Spelling t a → Decimal d k → k ≤ 128 → a % 2 ^ (128 - k) ≡ 0 → PrefixText (t ++ (47 ∷ d)) (record { address = a; length = Some k })
