-- IPv6 rule lines by their grammar, told without a reader, and what their rules mean.
use Rattle.std.specs.Prelude.{◌≡◌, ℕ, ◌≤◌, false, List, ◌∷◌, ◌++◌, length, Some, None}
use Rattle.engine.specs.Ops.{bit_at}
use Rattle.text.specs.Written.{Decimal}
use Rattle.address.specs.declared.prefix.Prefix.{Prefix}
use Rattle.address.specs.Grammar.{PrefixText}
use Rattle.kind.specs.declared.rule.Action.{Action}
use Rattle.kind.specs.declared.rule.Rule.{Rule}
use Rattle.kind.specs.Actions.{action_word}
use Rattle.kind.specs.Kinds.{Bytes}
use Rattle.kind.specs.Rules.{Matches}
use Rattle.ipv6.specs.declared.said.Said.{Said}
use Rattle.ipv6.specs.Rules.{rule_of, Covers}

-- the text is a port: a decimal number 0 to 65535
pub record PortText (text : List ℕ) (port : ℕ) : Type 0 where
  pub decimal : Decimal text port
  pub fits : port ≤ 65535

-- the line is an action word, a space, an address with an optional length, and then nothing, or a space and a port
pub data LineText : List ℕ → Said → Type 0 where
  any_port : (a : Action) (t : List ℕ) (x : Prefix) → PrefixText t x → LineText (action_word a ++ (32 ∷ t)) (record { action = a; prefix = x; port = None })
  one_port : (a : Action) (t d : List ℕ) (x : Prefix) (q : ℕ) → PrefixText t x → PortText d q → LineText (action_word a ++ (32 ∷ (t ++ (32 ∷ d)))) (record { action = a; prefix = x; port = Some q })

-- the line is such a line of at most 80 bytes, and this is the rule of what it says
pub record RuleText (line : List ℕ) (r : Rule) : Type 0 where
  pub said : Said
  pub says : LineText line said
  pub few : length line ≤ 80
  pub rule : r ≡ rule_of said

-- the rule has the line's action, matches exactly the frames that the line covers, and has value bits of 0 where they do not count
pub record Meant (line : List ℕ) (r : Rule) : Type 0 where
  pub said : Said
  pub says : LineText line said
  pub action : r.action ≡ said.action
  pub covers : (frame : List ℕ) → length frame ≡ 18 → Bytes frame → Matches 144 r (bit_at frame) → Covers said frame
  pub covered : (frame : List ℕ) → length frame ≡ 18 → Bytes frame → Covers said frame → Matches 144 r (bit_at frame)
  pub clear : (v : ℕ) → 1 ≤ v → v ≤ 144 → bit_at r.care v ≡ false → bit_at r.value v ≡ false
