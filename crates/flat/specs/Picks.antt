-- The fields for from and to of a flat rule line.
use Rattle.std.specs.Prelude.{ℕ, ◌-◌, cond, ◌&&◌, List, [], ◌∷◌, Some, None, Ok, Err, Result, ◌==◌, nat_le}
use Rattle.kind.specs.declared.fault.FlatFault.{FlatFault}
use Rattle.kind.specs.declared.fault.FlatFault.TheVariants as fault
use Rattle.flat.specs.declared.pick.Pick.{Pick}

-- what a byte says: `*` any number, a digit 0 to 7 that number
abbrev pub pick_byte : ℕ → ℕ → Result Pick FlatFault
pick_byte c place = cond (c == 42) (Ok (record { number = None })) (cond (nat_le 48 c && nat_le c 55) (Ok (record { number = Some (c - 48) })) (Err (fault.Digit place)))

-- what a field's text says; text that is not one such byte is refused at the field's place
abbrev pub pick_of : List ℕ → ℕ → Result Pick FlatFault
pick_of [] place = Err (fault.Digit place)
pick_of (c ∷ []) place = pick_byte c place
pick_of (c ∷ d ∷ cs) place = Err (fault.Digit place)

-- the number that is picked; 0 where any will do
abbrev pub picked : Pick → ℕ
picked p = elim p.number [ Some d ↦ d | None ↦ 0 ]

-- which of the three bits count
abbrev pub counted : Pick → ℕ
counted p = elim p.number [ Some d ↦ 7 | None ↦ 0 ]
