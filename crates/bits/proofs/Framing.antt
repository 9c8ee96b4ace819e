-- Frames of 18 bytes, their bits and their numbers.
use Rattle.std.proofs.Common.{◌≡◌, ℕ, zero, suc, ◌+◌, ◌*◌, ◌^◌, ◌<◌, List, [], ◌∷◌, length, get_or, take, drop, sym, ap, ◌∙◌, subst, arith, lit<}
use Rattle.std.specs.Int.Digits.{number_from_digits}
use Rattle.std.proofs.lemmas.Int.Digits.{number_after_append}
use Rattle.std.proofs.lemmas.List.{take-append-drop, length-take-le, length-drop, get_or-drop}
use Rattle.engine.specs.Ops.{Bits, Agree, bit_at, spelt}
use Rattle.bits.specs.Frames.{be_bytes, frame_bytes, frame_of}
use Rattle.bits.proofs.Spelt.{spelt_only, spelt_bit, number_spelt}
use Rattle.bits.proofs.Bytes.{be_length, be_small, bit_bytes, after_is, number_below, be_number}

pub frame_length : (s : Bits) → length (frame_of s) ≡ 18
unfolding frame_of
frame_length s = be_length 18 (spelt 144 s)

pub frame_small : (s : Bits) (i : ℕ) → get_or (frame_of s) i 0 < 256
unfolding frame_of
frame_small s i = be_small 18 (spelt 144 s) i

pub frame_only : (s t : Bits) → Agree 144 s t → frame_of s ≡ frame_of t
unfolding frame_of
frame_only s t h = ap (be_bytes 18) (spelt_only 144 s t h)

pub frame_forth : (s : Bits) → Agree 144 (bit_at (frame_of s)) s
unfolding frame_of
frame_forth s v l m = bit_bytes 18 (spelt 144 s) v l m ∙ spelt_bit 144 s v l m

-- the first bytes of bytes
take_small : (n : ℕ) (f : List ℕ) → ((i : ℕ) → get_or f i 0 < 256) → (i : ℕ) → get_or (take n f) i 0 < 256
take_small zero f h i = lit< tt
take_small (suc n) [] h i = lit< tt
take_small (suc n) (x ∷ xs) h zero = h 0
take_small (suc n) (x ∷ xs) h (suc i) = take_small n xs (λ j. h (suc j)) i

-- a frame of 18 bytes
module _ (f : List ℕ) (whole : length f ≡ 18) (small : (i : ℕ) → get_or f i 0 < 256) where
  framed : be_bytes 18 (number_from_digits 256 f) ≡ f
  framed = subst (λ n. be_bytes n (number_from_digits 256 f) ≡ f) whole (be_number f small)

  pub frame_back : frame_of (bit_at f) ≡ f
  unfolding frame_of
  frame_back =
      let b : number_from_digits 256 f < 2 ^ 144 = subst (λ n. number_from_digits 256 f < 256 ^ n) whole (number_below f small) in
      ap (be_bytes 18) (number_spelt 144 (number_from_digits 256 f) (bit_at f) b (λ i l m. ap (λ x. bit_at x i) (sym framed) ∙ bit_bytes 18 (number_from_digits 256 f) i l m)) ∙ framed

  first_left : length (take 16 f) ≡ 16
  first_left = length-take-le 16 f (omega arith)

  last_left : length (drop 16 f) ≡ 2
  last_left = omega (arith, length-drop 16 f)

  pub address_below : number_from_digits 256 (take 16 f) < 2 ^ 128
  address_below = subst (λ n. number_from_digits 256 (take 16 f) < 256 ^ n) first_left (number_below (take 16 f) (take_small 16 f small))

  pub port_below : number_from_digits 256 (drop 16 f) < 65536
  port_below = subst (λ n. number_from_digits 256 (drop 16 f) < 256 ^ n) last_left (number_below (drop 16 f) (λ i. subst (λ x. x < 256) (sym (get_or-drop 16 f i 0)) (small (16 + i))))

  number_is : number_from_digits 256 f ≡ number_from_digits 256 (take 16 f) * 65536 + number_from_digits 256 (drop 16 f)
  number_is =
      ap (number_from_digits 256) (sym (take-append-drop 16 f)) ∙ number_after_append 256 0 (take 16 f) (drop 16 f) ∙ after_is (number_from_digits 256 (take 16 f)) (drop 16 f)
      ∙ ap (λ n. number_from_digits 256 (take 16 f) * 256 ^ n + number_from_digits 256 (drop 16 f)) last_left

  -- the frame is that of the number of its first 16 bytes and the number of its last two
  pub two_numbers : frame_bytes (number_from_digits 256 (take 16 f)) (number_from_digits 256 (drop 16 f)) ≡ f
  two_numbers = ap (be_bytes 18) (sym number_is) ∙ framed
