-- Rule lines are refused exactly as the relation says.
use Rattle.std.proofs.Common.{◌≡◌, ℕ, List, Ok, Err, Result, sym, refl, ap, ◌∙◌, subst}
use Rattle.text.specs.declared.fault.LineFault.TheVariants as line
use Rattle.text.specs.Numerals.{decimal}
use Rattle.text.specs.Lines.{Parts}
use Rattle.address.specs.Prefix.{prefix, in_line}
use Rattle.address.specs.Refusals.{Refuses}
use Rattle.address.proofs.Barring.{refuses_prefix}
use Rattle.kind.specs.declared.rule.Rule.{Rule}
use Rattle.kind.specs.declared.fault.PortFault.TheVariants.{Number}
use Rattle.kind.specs.declared.fault.RuleFault.{RuleFault}
use Rattle.kind.specs.Actions.{action_of}
use Rattle.ipv6.specs.declared.said.Said.{Said}
use Rattle.ipv6.specs.Lines.{port_or, parts_said, unless_fault, line_said, ruled, ipv6_rule}
use Rattle.ipv6.specs.Grammar.{PortText}
use Rattle.ipv6.specs.Refusals.{HasFields, RuleRefused, no_fields, no_action, no_prefix, no_port}
use Rattle.ipv6.proofs.Fielding.{fields_to, unfielded_to}
use Rattle.ipv6.proofs.Words.{found_none, Says, word_found, word_to, port_found}
use Rattle.ipv6.proofs.Saying.{prefix_to, LineSorted, line_sorted}

of_fields : (text : List ℕ) (p : Parts) → HasFields text p → ipv6_rule text ≡ ruled (parts_said p)
of_fields text p i = ap (λ r. ruled (unless_fault r)) (fields_to text i)

refusal_to : (text : List ℕ) {f : RuleFault} → RuleRefused text f → ipv6_rule text ≡ Err f
refusal_to text (no_fields f u) = ap (λ r. ruled (unless_fault r)) (unfielded_to text u)
refusal_to text (no_action p i n) =
    of_fields text p i ∙ rw (found_none (Says p.action.text) (line.Action p.action.place) (action_of p.action.text p.action.place) (word_found p.action.text p.action.place) n) refl
refusal_to text (no_prefix p a f i w r) =
    of_fields text p i ∙ rw (word_to a p.action.text p.action.place w, (refuses_prefix p.second.place p.second.text (in_line p.second.place (prefix p.second.text)) refl f).1 r) refl
refusal_to text (no_port p a x c i w t e n) =
    of_fields text p i ∙ rw (word_to a p.action.text p.action.place w, prefix_to p.second.place p.second.text x t, e, found_none (PortText c.text) (Number c.place) (port_or c.place (decimal c.text)) (port_found c.place c.text) n) refl

-- an answer that is the rule
pub refuses_rule : (text : List ℕ) (r : Result Rule RuleFault) → r ≡ ipv6_rule text → Refuses r (RuleRefused text)
refuses_rule text r e f = (λ h. go (line_said text) (line_sorted text) (sym e ∙ h), λ g. e ∙ refusal_to text g)
  where
    go : (o : Result Said RuleFault) → LineSorted text o → ruled o ≡ Err f → RuleRefused text f
    go (Ok s) l h = cc
    go (Err d) l h = let z : d ≡ f = cc in subst (RuleRefused text) z l
