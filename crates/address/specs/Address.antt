-- Address text.
use Rattle.std.specs.Prelude.{ℕ, suc, ◌+◌, ◌-◌, Bool, false, cond, ◌&&◌, List, [], ◌∷◌, ◌++◌, length, take, drop, replicate, Some, None, Ok, Err, Option, Result, ◌==◌, nat_le, nat_lt}
use Rattle.std.specs.Int.Digits.{number_from_digits}
use Rattle.text.specs.Numerals.{group}
use Rattle.text.specs.Split.{Part, split}
use Rattle.address.specs.declared.fault.GroupFault.{GroupFault}
use Rattle.address.specs.declared.fault.GroupFault.TheVariants.{Piece}
use Rattle.address.specs.declared.fault.AddressFault.{AddressFault}
use Rattle.address.specs.declared.fault.AddressFault.TheVariants.{Group, Count}

-- a value, or a fault at p where there is none
abbrev pub group_or : ℕ → Option ℕ → Result ℕ GroupFault
group_or p (Some v) = Ok v
group_or p None = Err (Piece p)

-- the value of a piece, or a fault at its place where it is no group
abbrev pub group_at : Part → Result ℕ GroupFault
group_at f = group_or f.place (group f.text)

-- a value before others, where there is no fault
abbrev pub with_first : ℕ → Result (List ℕ) GroupFault → Result (List ℕ) GroupFault
with_first v (Ok vs) = Ok (v ∷ vs)
with_first v (Err e) = Err e

-- the same, and the first fault counts
abbrev pub first_then : Result ℕ GroupFault → Result (List ℕ) GroupFault → Result (List ℕ) GroupFault
first_then (Ok v) r = with_first v r
first_then (Err e) r = Err e

-- the values of the pieces, or the fault of the first that is no group
abbrev pub groups : List Part → Result (List ℕ) GroupFault
groups [] = Ok []
groups (f ∷ fs) = first_then (group_at f) (groups fs)

-- the text begins with `::`
abbrev pub opens_gap : List ℕ → Bool
opens_gap [] = false
opens_gap (x ∷ []) = false
opens_gap (x ∷ y ∷ ys) = x == 58 && y == 58

-- how many bytes stand before the first `::`
abbrev pub before_gap_of : List ℕ → ℕ
before_gap_of [] = 0
before_gap_of (x ∷ xs) = cond (opens_gap (x ∷ xs)) 0 (suc (before_gap_of xs))

-- the place of the first `::`, where there is one
abbrev pub gap_of : List ℕ → Option ℕ
gap_of text = cond (nat_lt (before_gap_of text) (length text)) (Some (before_gap_of text)) None

-- the pieces of a side of `::` that begins at p; an empty side has none
abbrev pub side : ℕ → List ℕ → List Part
side p [] = []
side p (x ∷ xs) = split 58 p (x ∷ xs)

-- without `::` there are eight groups
abbrev pub plain : Result (List ℕ) GroupFault → Result (List ℕ) AddressFault
plain (Err e) = Err (Group e)
plain (Ok gs) = cond (length gs == 8) (Ok gs) (Err (Count 0))

-- `::` stands for one or more groups of zero
abbrev pub gapped : Result (List ℕ) GroupFault → Result (List ℕ) GroupFault → Result (List ℕ) AddressFault
gapped (Err e) r = Err (Group e)
gapped (Ok ls) (Err e) = Err (Group e)
gapped (Ok ls) (Ok rs) = cond (nat_le (length ls + length rs) 7) (Ok (ls ++ (replicate (8 - (length ls + length rs)) 0 ++ rs))) (Err (Count 0))

-- the eight groups of an address text, which is split at its first `::`
abbrev pub address_groups : List ℕ → Result (List ℕ) AddressFault
address_groups text =
    cond (nat_lt (before_gap_of text) (length text))
    (gapped (groups (side 0 (take (before_gap_of text) text))) (groups (side (before_gap_of text + 2) (drop (before_gap_of text + 2) text))))
    (plain (groups (split 58 0 text)))

-- eight groups as 128 bits
abbrev pub numbered : Result (List ℕ) AddressFault → Result ℕ AddressFault
numbered (Ok gs) = Ok (number_from_digits 65536 gs)
numbered (Err e) = Err e

-- the 128 bits of an address text
abbrev pub address : List ℕ → Result ℕ AddressFault
address text = numbered (address_groups text)
