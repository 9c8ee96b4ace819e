-- The action words of a rule line.
use Rattle.std.specs.Prelude.{ℕ, cond, List, Ok, Err, codes, Result}
use Rattle.std.specs.Str.{bytes_eq}
use Rattle.text.specs.declared.fault.LineFault.{LineFault}
use Rattle.text.specs.declared.fault.LineFault.TheVariants as fault
use Rattle.kind.specs.declared.rule.Action.{Action}
use Rattle.kind.specs.declared.rule.Action.TheVariants.{Block, Pass}

-- the word of an action
abbrev pub action_word : Action → List ℕ
action_word Block = codes "block"
action_word Pass = codes "pass"

-- the action that a field's text says; any other text is refused at the field's place
abbrev pub action_of : List ℕ → ℕ → Result Action LineFault
action_of text place = cond (bytes_eq text (action_word Block)) (Ok Block) (cond (bytes_eq text (action_word Pass)) (Ok Pass) (Err (fault.Action place)))
