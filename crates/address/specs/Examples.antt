-- The RFC's examples (sections 2.2 and 2.3), and texts that are refused.
use Rattle.std.specs.Prelude.{◌≡◌, ℕ, List, Some, None, Ok, Err, codes, Option, Result}
use Rattle.address.specs.declared.fault.AddressFault.{AddressFault}
use Rattle.address.specs.declared.prefix.Prefix.{Prefix}
use Rattle.address.specs.Address.{address}
use Rattle.address.specs.Faults.{address_number, address_place}
use Rattle.address.specs.Prefix.{prefix}

-- the number and place of a fault
abbrev pub fault_of : Result Prefix AddressFault → Option (ℕ × ℕ)
fault_of (Ok p) = None
fault_of (Err f) = Some (address_number f, address_place f)

-- the fault of a prefix text, if any
abbrev pub refusal : List ℕ → Option (ℕ × ℕ)
refusal text = fault_of (prefix text)

-- the 60-bit prefix of section 2.3
abbrev pub sixty : Prefix
sixty = record { address = 0x20010db80000cd300000000000000000; length = Some 60 }

-- texts, each with the address or prefix that it says or the number and place of its fault
abbrev pub Examples : Type 0
Examples =
    (address (codes "ABCD:EF01:2345:6789:ABCD:EF01:2345:6789") ≡ Ok 0xabcdef0123456789abcdef0123456789)
    × (address (codes "2001:DB8:0:0:8:800:200C:417A") ≡ Ok 0x20010db80000000000080800200c417a)
    × (address (codes "2001:DB8::8:800:200C:417A") ≡ Ok 0x20010db80000000000080800200c417a)
    × (address (codes "FF01:0:0:0:0:0:0:101") ≡ Ok 0xff010000000000000000000000000101)
    × (address (codes "FF01::101") ≡ Ok 0xff010000000000000000000000000101)
    × (address (codes "0:0:0:0:0:0:0:1") ≡ Ok 1)
    × (address (codes "::1") ≡ Ok 1)
    × (address (codes "0:0:0:0:0:0:0:0") ≡ Ok 0)
    × (address (codes "::") ≡ Ok 0)
    × (prefix (codes "2001:0DB8:0000:CD30:0000:0000:0000:0000/60") ≡ Ok sixty)
    × (prefix (codes "2001:0DB8::CD30:0:0:0:0/60") ≡ Ok sixty)
    × (prefix (codes "2001:0DB8:0:CD30::/60") ≡ Ok sixty)
    × (refusal (codes "2001:0DB8:0:CD3/60") ≡ Some (5, 0))
    × (refusal (codes "2001:0DB8::CD30/60") ≡ Some (7, 0))
    × (refusal (codes "2001:0DB8::CD3/60") ≡ Some (7, 0))
    × (refusal (codes "1:2:3:4:5:6:7::") ≡ None)
    × (refusal (codes "1:2:3:4:5:6:7:8::") ≡ Some (5, 0))
    × (refusal (codes "1::2::3") ≡ Some (4, 5))
    × (refusal (codes "/32") ≡ Some (4, 0))
    × (refusal (codes "::/129") ≡ Some (6, 3))
    × (refusal (codes "::/") ≡ Some (6, 3))
    × (refusal (codes "::/8/8") ≡ Some (6, 3))
