-- Flat rule lines that are read and flat rule lines that are refused.
use Rattle.std.specs.Prelude.{◌≡◌, ℕ, List, ◌++◌, replicate, Some, None, Ok, Err, codes, Option, Result}
use Rattle.kind.specs.declared.rule.Action.TheVariants.{Block}
use Rattle.kind.specs.declared.rule.Rule.{Rule}
use Rattle.kind.specs.declared.fault.RuleFault.{RuleFault}
use Rattle.kind.specs.Faults.{rule_number, rule_place}
use Rattle.flat.specs.Frames.{first}
use Rattle.flat.specs.Lines.{flat_rule}

-- the number and place of a fault
abbrev pub fault_of : Result Rule RuleFault → Option (ℕ × ℕ)
fault_of (Ok r) = None
fault_of (Err f) = Some (rule_number f, rule_place f)

-- the fault of a line, if any
abbrev pub refused : List ℕ → Option (ℕ × ℕ)
refused line = fault_of (flat_rule line)

-- a line whose last field is this many digits 2
abbrev pub long_line : ℕ → List ℕ
long_line n = codes "block 1 " ++ replicate n 50

-- lines, each with the rule that it says or the number and place of its fault
abbrev pub Examples : Type 0
Examples =
    (flat_rule (codes "block 3 *") ≡ Ok (record { action = Block; value = first 0x60; care = first 0xe0 }))
    × (flat_rule (codes "block 4 4") ≡ Ok (record { action = Block; value = first 0x90; care = first 0xfc }))
    × (refused (codes "pass 9 1") ≡ Some (9, 5))
    × (refused (codes "block 1 2 3 4") ≡ Some (2, 10))
    × (refused (codes "block  1") ≡ Some (2, 6))
    × (refused (codes "block 1") ≡ Some (2, 7))
    × (refused (codes "drop 1 2") ≡ Some (3, 0))
    -- the fields of a line of 80 bytes are read, those of one of 81 are not
    × (refused (long_line 72) ≡ Some (9, 8))
    × (refused (long_line 73) ≡ Some (1, 0))
