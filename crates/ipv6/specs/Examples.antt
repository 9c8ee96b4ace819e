-- IPv6 rule lines that are read and IPv6 rule lines that are refused.
use Rattle.std.specs.Prelude.{◌≡◌, ℕ, List, ◌++◌, replicate, Some, None, Ok, Err, codes, Option, Result}
use Rattle.kind.specs.declared.rule.Action.TheVariants.{Block, Pass}
use Rattle.kind.specs.declared.rule.Rule.{Rule}
use Rattle.kind.specs.declared.fault.RuleFault.{RuleFault}
use Rattle.kind.specs.Faults.{rule_number, rule_place}
use Rattle.bits.specs.Frames.{be_bytes}
use Rattle.ipv6.specs.Lines.{ipv6_rule}

-- the number and place of a fault
abbrev pub fault_of : Result Rule RuleFault → Option (ℕ × ℕ)
fault_of (Ok r) = None
fault_of (Err f) = Some (rule_number f, rule_place f)

-- the fault of a line, if any
abbrev pub refused : List ℕ → Option (ℕ × ℕ)
refused line = fault_of (ipv6_rule line)

-- a line whose port field is this many digits 1
abbrev pub long_line : ℕ → List ℕ
long_line n = codes "block ::1 " ++ replicate n 49

-- lines, each with the rule that it says or the number and place of its fault
abbrev pub Examples : Type 0
Examples =
    (ipv6_rule (codes "block 1:2:3:4:5:6:7::") ≡ Ok (record { action = Block; value = be_bytes 18 0x000100020003000400050006000700000000; care = be_bytes 18 0xffffffffffffffffffffffffffffffff0000 }))
    × (ipv6_rule (codes "pass ::1 65535") ≡ Ok (record { action = Pass; value = be_bytes 18 0x00000000000000000000000000000001ffff; care = be_bytes 18 0xffffffffffffffffffffffffffffffffffff }))
    × (ipv6_rule (codes "block 2001:DB8::/32 0") ≡ Ok (record { action = Block; value = be_bytes 18 0x20010db80000000000000000000000000000; care = be_bytes 18 0xffffffff000000000000000000000000ffff }))
    × (ipv6_rule (codes "pass ::/0") ≡ Ok (record { action = Pass; value = be_bytes 18 0; care = be_bytes 18 0 }))
    × (refused (codes "block 1:2:3:4:5:6:7:8::") ≡ Some (5, 6))
    × (refused (codes "block 1::2::3") ≡ Some (4, 11))
    × (refused (codes "block 2001:db8::1/32") ≡ Some (7, 6))
    × (refused (codes "block 2001:db8::/129") ≡ Some (6, 17))
    × (refused (codes "pass ::1 65536") ≡ Some (8, 9))
    × (refused (codes "pass ::1 080") ≡ Some (8, 9))
    × (refused (codes "block /32") ≡ Some (4, 6))
    × (refused (codes "block ::/8/8") ≡ Some (6, 9))
    × (refused (codes "block ::1 80 81") ≡ Some (2, 13))
    × (refused (codes "drop 1::2::3 65536") ≡ Some (3, 0))
    -- the fields of a line of 80 bytes are read, those of one of 81 are not
    × (refused (long_line 70) ≡ Some (8, 10))
    × (refused (long_line 71) ≡ Some (1, 0))
