-- The texts that are numbers, told without a reader.
use Rattle.std.specs.Prelude.{◌≡◌, ℕ, ◌+◌, ◌<◌, ◌≤◌, ◌⊎◌, List, [], ◌∷◌, length, Some, Option, ◌≢◌, slice_index}
use Rattle.std.specs.Int.Digits.{number_from_digits}

-- the byte c is a decimal digit of value d
pub record DecDigit (c d : ℕ) : Type 0 where
  pub code : c ≡ 48 + d
  pub below : d < 10

-- the byte c is a hexadecimal digit of value d, in either case: 0 to 9, a to f, A to F
pub data HexDigit : ℕ → ℕ → Type 0 where
  figure : (c d : ℕ) → DecDigit c d → HexDigit c d
  small : (c d : ℕ) → c ≡ 97 + d → d < 6 → HexDigit c (10 + d)
  capital : (c d : ℕ) → c ≡ 65 + d → d < 6 → HexDigit c (10 + d)

-- the text is digits of these values
pub data Digits (Digit : ℕ → ℕ → Type 0) : List ℕ → List ℕ → Type 0 where
  none : Digits Digit [] []
  more : (c d : ℕ) (cs ds : List ℕ) → Digit c d → Digits Digit cs ds → Digits Digit (c ∷ cs) (d ∷ ds)

-- the text is 1 to n digits and writes v in the base
pub record Writes (Digit : ℕ → ℕ → Type 0) (base n : ℕ) (text : List ℕ) (v : ℕ) : Type 0 where
  pub values : List ℕ
  pub digits : Digits Digit text values
  pub some : 1 ≤ length text
  pub few : length text ≤ n
  pub value : v ≡ number_from_digits base values

-- the text is a group, 1 to 4 hexadecimal digits, and writes v in base 16
abbrev pub Group : List ℕ → ℕ → Type 0
Group text v = Writes HexDigit 16 4 text v

-- the text is 1 to 5 decimal digits with no leading zero but 0 itself, and writes v in base 10
pub record Decimal (text : List ℕ) (v : ℕ) : Type 0 where
  pub writes : Writes DecDigit 10 5 text v
  pub plain : (length text ≡ 1) ⊎ (slice_index text 0 ≢ 48)

-- the answer is a number exactly where the relation holds of one, and is that number
abbrev pub Reads : Option ℕ → (ℕ → Type 0) → Type 0
Reads r R = (v : ℕ) → (r ≡ Some v → R v) × (R v → r ≡ Some v)
