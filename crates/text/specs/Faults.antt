-- The numbers and places of a rule line's faults.
use Rattle.std.specs.Prelude.{ℕ}
use Rattle.text.specs.declared.fault.LineFault.{LineFault}
use Rattle.text.specs.declared.fault.LineFault.TheVariants.{Length, Fields, Action}

abbrev pub line_number : LineFault → ℕ
line_number Length = 1
line_number (Fields p) = 2
line_number (Action p) = 3

abbrev pub line_place : LineFault → ℕ
line_place Length = 0
line_place (Fields p) = p
line_place (Action p) = p
