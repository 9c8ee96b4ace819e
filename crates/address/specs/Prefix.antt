-- Prefix text: an address with an optional length.
use Rattle.std.specs.Prelude.{ℕ, ◌+◌, ◌-◌, ◌%◌, ◌^◌, cond, List, length, take, drop, Some, None, Ok, Err, Option, Result, ◌==◌, nat_le, nat_lt}
use Rattle.text.specs.Numerals.{decimal}
use Rattle.text.specs.Split.{before}
use Rattle.address.specs.declared.fault.PrefixFault.{PrefixFault}
use Rattle.address.specs.declared.fault.PrefixFault.TheVariants.{Length, Stray}
use Rattle.address.specs.declared.fault.AddressFault.{AddressFault}
use Rattle.address.specs.declared.fault.AddressFault.TheVariants as fault
use Rattle.address.specs.declared.prefix.Prefix.{Prefix}
use Rattle.address.specs.Address.{address}
use Rattle.address.specs.Faults.{moved}

-- a length is a number 0 to 128; else there is a fault at p
abbrev pub length_or : ℕ → Option ℕ → Result ℕ PrefixFault
length_or p (Some n) = cond (nat_le n 128) (Ok n) (Err (Length p))
length_or p None = Err (Length p)

-- the length that a decimal text says which begins at p
abbrev pub length_at : ℕ → List ℕ → Result ℕ PrefixFault
length_at p text = length_or p (decimal text)

-- the bits of an address past its first k, as a number
abbrev pub bits_past_of : ℕ → ℕ → ℕ
bits_past_of k a = a % 2 ^ (128 - k)

-- no bit of a prefix is set past its length
abbrev pub unstray : ℕ → ℕ → Result Prefix PrefixFault
unstray a k = cond (bits_past_of k a == 0) (Ok (record { address = a; length = Some k })) (Err (Stray 0))

-- a fault of the prefix passes up whole
abbrev pub passed : Result Prefix PrefixFault → Result Prefix AddressFault
passed (Ok p) = Ok p
passed (Err e) = Err (fault.Prefix e)

-- the prefix of an address and a length; the first fault counts
abbrev pub sized_prefix : Result ℕ AddressFault → Result ℕ PrefixFault → Result Prefix AddressFault
sized_prefix (Err e) k = Err e
sized_prefix (Ok a) (Err e) = Err (fault.Prefix e)
sized_prefix (Ok a) (Ok k) = passed (unstray a k)

-- the prefix of an address without a length
abbrev pub whole_prefix : Result ℕ AddressFault → Result Prefix AddressFault
whole_prefix (Ok a) = Ok (record { address = a; length = None })
whole_prefix (Err e) = Err e

-- the prefix of a text: the address before its first `/`, and the length after it
abbrev pub prefix : List ℕ → Result Prefix AddressFault
prefix text =
    cond (nat_lt (before 47 text) (length text))
    (sized_prefix (address (take (before 47 text) text)) (length_at (before 47 text + 1) (drop (before 47 text + 1) text)))
    (whole_prefix (address text))

-- an answer about a text that begins at `start` of a line, with places in the line
abbrev pub in_line : ℕ → Result Prefix AddressFault → Result Prefix AddressFault
in_line start (Ok p) = Ok p
in_line start (Err e) = Err (moved start e)
