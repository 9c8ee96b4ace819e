-- The numbers and places of the faults of a rule line and of a frame.
use Rattle.std.specs.Prelude.{ℕ}
use Rattle.text.specs.Faults.{line_number, line_place}
use Rattle.address.specs.Faults.{address_number, address_place}
use Rattle.kind.specs.declared.fault.PortFault.{PortFault}
use Rattle.kind.specs.declared.fault.PortFault.TheVariants.{Number}
use Rattle.kind.specs.declared.fault.FlatFault.{FlatFault}
use Rattle.kind.specs.declared.fault.FlatFault.TheVariants.{Digit}
use Rattle.kind.specs.declared.fault.RuleFault.{RuleFault}
use Rattle.kind.specs.declared.fault.RuleFault.TheVariants as rule
use Rattle.kind.specs.declared.fault.FrameFault.{FrameFault}
use Rattle.kind.specs.declared.fault.FrameFault.TheVariants.{Wrong}

abbrev pub port_number : PortFault → ℕ
port_number (Number p) = 8

abbrev pub port_place : PortFault → ℕ
port_place (Number p) = p

abbrev pub flat_number : FlatFault → ℕ
flat_number (Digit p) = 9

abbrev pub flat_place : FlatFault → ℕ
flat_place (Digit p) = p

abbrev pub rule_number : RuleFault → ℕ
rule_number (rule.Line f) = line_number f
rule_number (rule.Address f) = address_number f
rule_number (rule.Port f) = port_number f
rule_number (rule.Flat f) = flat_number f

abbrev pub rule_place : RuleFault → ℕ
rule_place (rule.Line f) = line_place f
rule_place (rule.Address f) = address_place f
rule_place (rule.Port f) = port_place f
rule_place (rule.Flat f) = flat_place f

abbrev pub frame_number : FrameFault → ℕ
frame_number Wrong = 10
