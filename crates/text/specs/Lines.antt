-- The fields of a rule line.
use Rattle.std.specs.Prelude.{ℕ, Bool, cond, ◌&&◌, List, [], ◌∷◌, length, Some, None, Ok, Err, Option, Result, ◌==◌, nat_le}
use Rattle.std.specs.Option.{option_map}
use Rattle.text.specs.declared.fault.LineFault.{LineFault}
use Rattle.text.specs.declared.fault.LineFault.TheVariants as fault
use Rattle.text.specs.declared.line.Fields.{Fields}
use Rattle.text.specs.Split.{Part, part, split}

-- two or three fields of a line
pub record Parts : Type 0 where
  pub action : Part
  pub second : Part
  pub third : Option Part

-- the place of the first empty field
abbrev pub first_empty : List Part → Option ℕ
first_empty [] = None
first_empty (f ∷ fs) = cond (length f.text == 0) (Some f.place) (first_empty fs)

-- two or three fields; too few are a fault at the line's end, too many at the first surplus one
abbrev pub two_or_three_of : ℕ → List Part → Result Parts LineFault
two_or_three_of end [] = Err (fault.Fields end)
two_or_three_of end (a ∷ []) = Err (fault.Fields end)
two_or_three_of end (a ∷ b ∷ []) = Ok (record { action = a; second = b; third = None })
two_or_three_of end (a ∷ b ∷ c ∷ []) = Ok (record { action = a; second = b; third = Some c })
two_or_three_of end (a ∷ b ∷ c ∷ d ∷ fs) = Err (fault.Fields d.place)

-- an empty field is a fault, before the number of fields
abbrev pub unless_empty : Option ℕ → Result Parts LineFault → Result Parts LineFault
unless_empty (Some p) r = Err (fault.Fields p)
unless_empty None r = r

-- a rule line has 1 to 80 bytes
abbrev pub fits_line : List ℕ → Bool
fits_line line = nat_le 1 (length line) && nat_le (length line) 80

-- the fields of a rule line, split at each space
abbrev pub line_fields : List ℕ → Result Parts LineFault
line_fields line = cond (fits_line line) (unless_empty (first_empty (split 32 0 line)) (two_or_three_of (length line) (split 32 0 line))) (Err fault.Length)

-- the parts that the code's fields are
abbrev pub parts : Fields → Parts
parts f = record { action = part f.action; second = part f.second; third = option_map part f.third }

-- what the code's answer says: the parts, or the fault
abbrev pub shown : Result Fields LineFault → Result Parts LineFault
shown (Ok f) = Ok (parts f)
shown (Err e) = Err e
