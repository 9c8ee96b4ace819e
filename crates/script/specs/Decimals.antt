-- Decimal numbers as text.
use Rattle.std.specs.Prelude.{ℕ, cond, ◌||◌, List, length, None, Option, ◌==◌}
use Rattle.std.specs.Option.{option_map}
use Rattle.text.specs.Numerals.{dec_digit_of, number_after, capped, padded}

-- the number that a text writes, or the largest of the machine, with no leading zero but 0 itself
abbrev pub decimal_of : List ℕ → Option ℕ
decimal_of text = cond (length text == 0 || padded text) None (option_map capped (number_after dec_digit_of 10 0 text))
