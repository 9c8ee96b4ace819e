-- The numbers and places of a filter's faults.
use Rattle.std.specs.Prelude.{ℕ}
use Rattle.engine.specs.Does.{fault_number}
use Rattle.kind.specs.Faults.{rule_number, rule_place, frame_number}
use Rattle.filter.specs.declared.fault.FilterFault.{FilterFault}
use Rattle.filter.specs.declared.fault.FilterFault.TheVariants.{Rule, Frame, Engine, Mismatch, Full, Missing}

abbrev pub filter_number : FilterFault → ℕ
filter_number (Rule f) = rule_number f
filter_number (Frame f) = frame_number f
filter_number (Engine f) = fault_number f
filter_number Mismatch = 14
filter_number Full = 15
filter_number Missing = 16

-- only a line's faults have a place
abbrev pub filter_place : FilterFault → ℕ
filter_place (Rule f) = rule_place f
filter_place (Frame f) = 0
filter_place (Engine f) = 0
filter_place Mismatch = 0
filter_place Full = 0
filter_place Missing = 0
