use Rattle.std.proofs.Common.{◌≡◌, Ok, rules}
use Rattle.ipv6.specs.Lines.{ipv6_rule}
use Rattle.ipv6.proofs.Saying.{accepts_rule}
use Rattle.ipv6.proofs.Refusing.{refuses_rule}
use Rattle.ipv6.proofs.Meaning.{rule_meant}
use Rattle.ipv6.proofs.line.read_line.Goals as goal

pub returns-in_err-said : goal.returns-in_err-said
returns-in_err-said c =
    let e : c.from_residual.result ≡ ipv6_rule c.args.line.now = search rules in
    record { value = e; grammar = accepts_rule c.args.line.now _ e; refusal = refuses_rule c.args.line.now _ e; meaning = rule_meant c.args.line.now _ e }

pub returns : goal.returns
returns c =
    let e : Ok c.rule.result ≡ ipv6_rule c.args.line.now = search rules in
    record { value = e; grammar = accepts_rule c.args.line.now _ e; refusal = refuses_rule c.args.line.now _ e; meaning = rule_meant c.args.line.now _ e }
