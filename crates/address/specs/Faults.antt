-- The numbers and places of the faults of an address and of a prefix.
use Rattle.std.specs.Prelude.{ℕ, ◌+◌, ◌-◌, ◌^◌, min}
use Rattle.address.specs.declared.fault.GroupFault.TheVariants.{Piece}
use Rattle.address.specs.declared.fault.PrefixFault.TheVariants.{Length, Stray}
use Rattle.address.specs.declared.fault.AddressFault.{AddressFault}
use Rattle.address.specs.declared.fault.AddressFault.TheVariants.{Group, Count, Prefix}

abbrev pub address_number : AddressFault → ℕ
address_number (Group (Piece p)) = 4
address_number (Count p) = 5
address_number (Prefix (Length p)) = 6
address_number (Prefix (Stray p)) = 7

abbrev pub address_place : AddressFault → ℕ
address_place (Group (Piece p)) = p
address_place (Count p) = p
address_place (Prefix (Length p)) = p
address_place (Prefix (Stray p)) = p

-- place p of a text that begins at `start` of a line, as a place in the line; past the last one it stays there
abbrev pub from_start : ℕ → ℕ → ℕ
from_start start p = min (start + p) (2 ^ 64 - 1)

-- a fault of such a text as a fault of the line
abbrev pub moved : ℕ → AddressFault → AddressFault
moved start (Group (Piece p)) = Group (Piece (from_start start p))
moved start (Count p) = Count (from_start start p)
moved start (Prefix (Length p)) = Prefix (Length (from_start start p))
moved start (Prefix (Stray p)) = Prefix (Stray (from_start start p))
