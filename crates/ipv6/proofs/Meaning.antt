-- What the rule of a line matches.
use Rattle.std.proofs.Common.{◌≡◌, ℕ, List, length, take, drop, IfOk, Ok, Err, Result, sym, refl, ap, ◌∙◌}
use Rattle.std.specs.Int.Digits.{number_from_digits}
use Rattle.engine.specs.Ops.{bit_at}
use Rattle.kind.specs.declared.rule.Rule.{Rule}
use Rattle.kind.specs.declared.fault.RuleFault.{RuleFault}
use Rattle.kind.specs.Kinds.{Bytes}
use Rattle.kind.specs.Rules.{Matches}
use Rattle.bits.specs.Frames.{frame_bytes, value_bytes, care_bytes}
use Rattle.bits.proofs.Agreeing.{Agrees, Fits, address_from, port_from, agrees_to, port_to, value_clear}
use Rattle.bits.proofs.Framing.{address_below, port_below, two_numbers}
use Rattle.ipv6.specs.declared.said.Said.{Said}
use Rattle.ipv6.specs.Rules.{rule_of, Covers}
use Rattle.ipv6.specs.Lines.{ipv6_rule}
use Rattle.ipv6.specs.Grammar.{LineText, any_port, one_port, Meant}
use Rattle.ipv6.proofs.Clear.{Bounded, prefix_bounded}
use Rattle.ipv6.proofs.Saying.{accepts_rule}

-- what a line says is within bounds
record Right (s : Said) : Type 0 where
  prefix : Bounded s.prefix
  port : Fits s.port

line_right : {text : List ℕ} {s : Said} → LineText text s → Right s
line_right (any_port a t x h) = record { prefix = prefix_bounded h; port = tt }
line_right (one_port a t d x q h n) = record { prefix = prefix_bounded h; port = n.fits }

module _ (s : Said) (right : Right s) (f : List ℕ) (whole : length f ≡ 18) (small : Bytes f) where
  abbrev top : ℕ
  top = number_from_digits 256 (take 16 f)

  abbrev low : ℕ
  low = number_from_digits 256 (drop 16 f)

  agrees : Matches 144 (rule_of s) (bit_at f) → Agrees (value_bytes s.prefix.address s.port) (care_bytes s.prefix.length s.port) (frame_bytes top low)
  agrees m v l h c = ap (λ x. bit_at x v) (two_numbers f whole small) ∙ m v l h c

  covers : Matches 144 (rule_of s) (bit_at f) → Covers s f
  covers m = record {
    address = address_from s.prefix.address top low s.prefix.length s.port right.port right.prefix.length (port_below f whole small) right.prefix.address (address_below f whole small) (agrees m);
    port = port_from s.prefix.address top low s.prefix.length s.port right.port right.prefix.length (port_below f whole small) (agrees m);
  }

  covered : Covers s f → Matches 144 (rule_of s) (bit_at f)
  covered c v l h e =
      ap (λ x. bit_at x v) (sym (two_numbers f whole small))
      ∙ agrees_to s.prefix.address top low s.prefix.length s.port right.port right.prefix.length (port_below f whole small) c.address (port_to s.port low c.port) v l h e

meant_rule : (text : List ℕ) (s : Said) → LineText text s → Meant text (rule_of s)
meant_rule text s t =
    let r = line_right t in
    record {
      said = s;
      says = t;
      action = refl;
      covers = λ f w b. covers s r f w b;
      covered = λ f w b. covered s r f w b;
      clear = value_clear s.prefix.address s.prefix.length s.port r.port r.prefix.length r.prefix.kept;
    }

-- an answer that is the rule
pub rule_meant : (text : List ℕ) (r : Result Rule RuleFault) → r ≡ ipv6_rule text → IfOk r (Meant text)
rule_meant text (Ok x) e = let t = (accepts_rule text (Ok x) e x).0 refl in rw t.rule (meant_rule text t.said t.says)
rule_meant text (Err f) e = tt
