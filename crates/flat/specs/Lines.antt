-- Flat rule lines.
use Rattle.std.specs.Prelude.{ℕ, ◌+◌, ◌*◌, List, length, Some, None, Ok, Err, Option, Result}
use Rattle.text.specs.declared.fault.LineFault.{LineFault}
use Rattle.text.specs.declared.fault.LineFault.TheVariants as line
use Rattle.text.specs.Split.{Part}
use Rattle.text.specs.Lines.{Parts, line_fields}
use Rattle.kind.specs.declared.rule.Action.{Action}
use Rattle.kind.specs.declared.rule.Rule.{Rule}
use Rattle.kind.specs.declared.fault.FlatFault.{FlatFault}
use Rattle.kind.specs.declared.fault.RuleFault.{RuleFault}
use Rattle.kind.specs.declared.fault.RuleFault.TheVariants as fault
use Rattle.kind.specs.Actions.{action_of}
use Rattle.flat.specs.declared.pick.Pick.{Pick}
use Rattle.flat.specs.Picks.{pick_of, picked, counted}
use Rattle.flat.specs.Frames.{first}

-- the rule for the frames of two picks: three bits for from, then three for to
abbrev pub rule_of : Action → Pick → Pick → Rule
rule_of action from to = record { action = action; value = first (picked from * 32 + picked to * 4); care = first (counted from * 32 + counted to * 4) }

-- the rule of what the three fields say; the first fault counts
abbrev pub ruled : Result Action LineFault → Result Pick FlatFault → Result Pick FlatFault → Result Rule RuleFault
ruled (Err f) from to = Err (fault.Line f)
ruled (Ok action) (Err f) to = Err (fault.Flat f)
ruled (Ok action) (Ok from) (Err f) = Err (fault.Flat f)
ruled (Ok action) (Ok from) (Ok to) = Ok (rule_of action from to)

-- the rule of a line's fields; where there is no third, the fault is at the line's end
abbrev pub with_third : ℕ → Part → Part → Option Part → Result Rule RuleFault
with_third end a b None = Err (fault.Line (line.Fields end))
with_third end a b (Some c) = ruled (action_of a.text a.place) (pick_of b.text b.place) (pick_of c.text c.place)

-- the rule of the fields of a line that ends at this place
abbrev pub fields_rule : ℕ → Parts → Result Rule RuleFault
fields_rule end p = with_third end p.action p.second p.third

-- the same, where the line has fields; else its fault
abbrev pub unless_fault : ℕ → Result Parts LineFault → Result Rule RuleFault
unless_fault end (Err f) = Err (fault.Line f)
unless_fault end (Ok p) = fields_rule end p

-- the rule that a line says
abbrev pub flat_rule : List ℕ → Result Rule RuleFault
flat_rule line = unless_fault (length line) (line_fields line)
