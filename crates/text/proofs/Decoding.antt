-- The loop that reads pairs of hexadecimal digits.
use Rattle.std.proofs.Common.{◌≡◌, ℕ, ◌-◌, ◌≤◌, List, [], ◌∷◌, ◌++◌, length, get_or, take, drop, Some, None, Option, refl, ap, ◌∙◌, append_assoc, arith}
use Rattle.std.specs.Option.{option_map}
use Rattle.std.proofs.lemmas.List.{take_rest}
use Rattle.text.specs.Hexadecimal.{hex_digit, hex_pair, hex_bytes, put_first}

-- the bytes that are there, and then those of the rest
abbrev pub after : List ℕ → Option (List ℕ) → Option (List ℕ)
after done rest = option_map (λ bs. done ++ bs) rest

after_more : (done : List ℕ) (b : ℕ) (rest : Option (List ℕ)) → after (done ++ b ∷ []) rest ≡ after done (put_first (Some b) rest)
after_more done b None = refl
after_more done b (Some bs) = ap Some (append_assoc done (b ∷ []) bs)

-- one pair more; the rest as the checker reads it
pub pair_more : (text done : List ℕ) (b : ℕ) → 2 ≤ length text → Some b ≡ hex_pair (hex_digit (get_or text 0 0)) (hex_digit (get_or text 1 0)) → after (done ++ b ∷ []) (hex_bytes (take (length text - 2) (drop 2 text))) ≡ after done (hex_bytes text)
pair_more [] done b h e = absurd (omega arith)
pair_more (x ∷ []) done b h e = absurd (omega arith)
pair_more (x ∷ y ∷ rest) done b h e =
    ap (λ (t : List ℕ). after (done ++ b ∷ []) (hex_bytes t)) (take_rest (x ∷ y ∷ rest) 2)
    ∙ after_more done b (hex_bytes rest)
    ∙ ap (λ (o : Option ℕ). after done (put_first o (hex_bytes rest))) e
