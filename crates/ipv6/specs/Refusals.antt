-- Which fault an IPv6 rule line has.
use Rattle.std.specs.Prelude.{◌≡◌, ℕ, ◌<◌, ◌≤◌, ◌⊎◌, List, [], ◌∷◌, length, Some, None, ◌≢◌}
use Rattle.text.specs.declared.fault.LineFault.{LineFault}
use Rattle.text.specs.declared.fault.LineFault.TheVariants as line
use Rattle.text.specs.Split.{Part, split}
use Rattle.text.specs.Lines.{Parts}
use Rattle.address.specs.declared.fault.AddressFault.{AddressFault}
use Rattle.address.specs.declared.prefix.Prefix.{Prefix}
use Rattle.address.specs.Grammar.{PrefixText}
use Rattle.address.specs.Refusals.{RefusedAt}
use Rattle.kind.specs.declared.rule.Action.{Action}
use Rattle.kind.specs.declared.fault.PortFault.TheVariants.{Number}
use Rattle.kind.specs.declared.fault.RuleFault.{RuleFault}
use Rattle.kind.specs.declared.fault.RuleFault.TheVariants as fault
use Rattle.kind.specs.Actions.{action_word}
use Rattle.ipv6.specs.Grammar.{PortText}

-- the fields of a line, which stand between its spaces, each with its place
abbrev pub fields : List ℕ → List Part
fields text = split 32 0 text

-- the line has 1 to 80 bytes
pub record Sized (text : List ℕ) : Type 0 where
  pub some : 1 ≤ length text
  pub few : length text ≤ 80

-- no field is empty
pub data NoneEmpty : List Part → Type 0 where
  none : NoneEmpty []
  more : (f : Part) (fs : List Part) → 0 < length f.text → NoneEmpty fs → NoneEmpty (f ∷ fs)

-- the first empty field begins at this place
pub data FirstEmpty : List Part → ℕ → Type 0 where
  here : (f : Part) (fs : List Part) → length f.text ≡ 0 → FirstEmpty (f ∷ fs) f.place
  later : (f : Part) (fs : List Part) (p : ℕ) → 0 < length f.text → FirstEmpty fs p → FirstEmpty (f ∷ fs) p

-- there are two or three fields, and these are they
pub data TwoOrThree : List Part → Parts → Type 0 where
  two : (a b : Part) → TwoOrThree (a ∷ b ∷ []) (record { action = a; second = b; third = None })
  three : (a b c : Part) → TwoOrThree (a ∷ b ∷ c ∷ []) (record { action = a; second = b; third = Some c })

-- there are fewer than two fields, which is a fault at the line's end, or more than three, which is one at the fourth
pub data Misnumbered (end : ℕ) : List Part → ℕ → Type 0 where
  too_few : (fs : List Part) → length fs < 2 → Misnumbered end fs end
  too_many : (a b c d : Part) (fs : List Part) → Misnumbered end (a ∷ b ∷ c ∷ d ∷ fs) d.place

-- the fault of a line that has not two or three fields: its length; else an empty field; else their number
pub data Unfielded (text : List ℕ) : LineFault → Type 0 where
  ill_sized : (length text ≡ 0) ⊎ (80 < length text) → Unfielded text line.Length
  empty_field : (p : ℕ) → Sized text → FirstEmpty (fields text) p → Unfielded text (line.Fields p)
  misnumbered : (p : ℕ) → Sized text → NoneEmpty (fields text) → Misnumbered (length text) (fields text) p → Unfielded text (line.Fields p)

-- the line has these two or three fields, and none of them is empty
pub record HasFields (text : List ℕ) (p : Parts) : Type 0 where
  pub sized : Sized text
  pub full : NoneEmpty (fields text)
  pub are : TwoOrThree (fields text) p

-- the fault of a line: that of its fields; else the action; else the address or its length; else the port
pub data RuleRefused (text : List ℕ) : RuleFault → Type 0 where
  no_fields : (f : LineFault) → Unfielded text f → RuleRefused text (fault.Line f)
  no_action : (p : Parts) → HasFields text p → ((a : Action) → p.action.text ≢ action_word a) → RuleRefused text (fault.Line (line.Action p.action.place))
  no_prefix : (p : Parts) (a : Action) (f : AddressFault) → HasFields text p → p.action.text ≡ action_word a → RefusedAt p.second.place p.second.text f → RuleRefused text (fault.Address f)
  no_port : (p : Parts) (a : Action) (x : Prefix) (c : Part) → HasFields text p → p.action.text ≡ action_word a → PrefixText p.second.text x → p.third ≡ Some c → ((q : ℕ) → PortText c.text q → ⊥) → RuleRefused text (fault.Port (Number c.place))
