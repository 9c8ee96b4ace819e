-- Numbers as text: a group of hexadecimal digits, and a decimal number.
use Rattle.std.specs.Prelude.{ℕ, ◌+◌, ◌-◌, ◌*◌, ◌^◌, min, Bool, false, cond, ◌&&◌, List, [], ◌∷◌, length, Some, None, Option, ◌==◌, nat_le, nat_lt}
use Rattle.text.specs.Hexadecimal.{hex_digit}

-- the value of a decimal digit
abbrev pub dec_digit_of : ℕ → Option ℕ
dec_digit_of c = cond (nat_le 48 c && nat_le c 57) (Some (c - 48)) None

-- the number that the digits write after v, where each is a digit
abbrev pub number_after : (ℕ → Option ℕ) → ℕ → ℕ → List ℕ → Option ℕ
number_after digit base v [] = Some v
number_after digit base v (c ∷ cs) = elim (digit c) [ Some d ↦ number_after digit base (v * base + d) cs | None ↦ None ]

-- a number, or the largest of the machine
abbrev pub capped : ℕ → ℕ
capped v = min v (2 ^ 64 - 1)

-- the text has 1 to n bytes
abbrev pub sized : ℕ → List ℕ → Bool
sized n text = nat_lt 0 (length text) && nat_le (length text) n

-- the number that a text of 1 to n digits writes
abbrev pub number_of : (ℕ → Option ℕ) → ℕ → ℕ → List ℕ → Option ℕ
number_of digit base n text = cond (sized n text) (number_after digit base 0 text) None

-- the value of a group, 1 to 4 hexadecimal digits
abbrev pub group : List ℕ → Option ℕ
group text = number_of hex_digit 16 4 text

-- a zero stands before another byte
abbrev pub padded : List ℕ → Bool
padded [] = false
padded (c ∷ []) = false
padded (c ∷ d ∷ cs) = c == 48

-- the value of a decimal number, 1 to 5 digits with no leading zero but 0 itself
abbrev pub decimal : List ℕ → Option ℕ
decimal text = cond (padded text) None (number_of dec_digit_of 10 5 text)
