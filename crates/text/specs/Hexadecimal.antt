-- Hexadecimal digits and bytes.
use Rattle.std.specs.Prelude.{ℕ, ◌+◌, ◌-◌, ◌*◌, ◌/◌, ◌%◌, cond, ◌&&◌, List, [], ◌∷◌, flat_map, Some, None, Option, nat_le, nat_lt}

-- the value of a hexadecimal digit in either case: `0` to `9`, `a` to `f`, `A` to `F`
abbrev pub hex_digit : ℕ → Option ℕ
hex_digit c =
    cond (nat_le 48 c && nat_le c 57) (Some (c - 48))
    (cond (nat_le 97 c && nat_le c 102) (Some (c - 97 + 10))
    (cond (nat_le 65 c && nat_le c 70) (Some (c - 65 + 10)) None))

-- the byte of two digits, the higher first
abbrev pub hex_pair : Option ℕ → Option ℕ → Option ℕ
hex_pair None low = None
hex_pair (Some high) None = None
hex_pair (Some high) (Some low) = Some (high * 16 + low)

-- a byte before others, where both are there
abbrev pub put_first : Option ℕ → Option (List ℕ) → Option (List ℕ)
put_first None bytes = None
put_first (Some b) None = None
put_first (Some b) (Some bs) = Some (b ∷ bs)

-- the bytes of a text of pairs of hexadecimal digits
abbrev pub hex_bytes : List ℕ → Option (List ℕ)
hex_bytes [] = Some []
hex_bytes (a ∷ []) = None
hex_bytes (a ∷ b ∷ rest) = put_first (hex_pair (hex_digit a) (hex_digit b)) (hex_bytes rest)

-- the lower-case hexadecimal digit of the low four bits
abbrev pub hex_low : ℕ → ℕ
hex_low d = cond (nat_lt (d % 16) 10) (48 + d % 16) (97 + (d % 16 - 10))

-- the text of some bytes: two lower-case digits each, the higher first
abbrev pub hex_text : List ℕ → List ℕ
hex_text bytes = flat_map (λ b. hex_low (b / 16) ∷ (hex_low b ∷ [])) bytes
