-- Bytes as hexadecimal text, byte by byte.
use Rattle.std.specs.Prelude.{◌≡◌, ℕ, ◌+◌, ◌/◌, ◌%◌, ◌<◌, List, [], ◌∷◌, ◌++◌, length, take, refl}
use Rattle.std.proofs.Common.{get_or, arith}
use Rattle.std.proofs.Math.Utf8.{encode}
use Rattle.std.proofs.lemmas.Bool.Decides.{nat_tests}
use Rattle.std.proofs.lemmas.List.{take_more}
use Rattle.std.proofs.lemmas.Grind.{flat_map-append}
use Rattle.std.proofs.lemmas.Str.{encode_ascii}
use Rattle.text.specs.Hexadecimal.{hex_low, hex_text}

-- a digit is one byte of text
digit_text : (d : ℕ) → encode (hex_low d) ≡ hex_low d ∷ []
digit_text d = let h : d % 16 < 16 = omega arith in let w : hex_low d < 128 = grind (arith, nat_tests) in encode_ascii (hex_low d) w

-- one byte more
pub hex_more : (bytes : List ℕ) (i high low : ℕ) → i < length bytes → high ≡ hex_low (get_or bytes i 0 / 16) → low ≡ hex_low (get_or bytes i 0) → hex_text (take i bytes) ++ (encode high ++ encode low) ≡ hex_text (take (i + 1) bytes)
hex_more bytes i high low lt h l = rw (h, l, digit_text (get_or bytes i 0 / 16), digit_text (get_or bytes i 0), take_more bytes i 0 lt, flat_map-append) refl
