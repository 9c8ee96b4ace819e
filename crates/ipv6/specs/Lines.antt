-- IPv6 rule lines.
use Rattle.std.specs.Prelude.{ℕ, cond, List, Some, None, Ok, Err, Option, Result, nat_le}
use Rattle.text.specs.declared.fault.LineFault.{LineFault}
use Rattle.text.specs.Numerals.{decimal}
use Rattle.text.specs.Split.{Part}
use Rattle.text.specs.Lines.{Parts, line_fields}
use Rattle.address.specs.declared.fault.AddressFault.{AddressFault}
use Rattle.address.specs.declared.prefix.Prefix.{Prefix}
use Rattle.address.specs.Prefix.{prefix, in_line}
use Rattle.kind.specs.declared.rule.Action.{Action}
use Rattle.kind.specs.declared.rule.Rule.{Rule}
use Rattle.kind.specs.declared.fault.PortFault.{PortFault}
use Rattle.kind.specs.declared.fault.PortFault.TheVariants.{Number}
use Rattle.kind.specs.declared.fault.RuleFault.{RuleFault}
use Rattle.kind.specs.declared.fault.RuleFault.TheVariants as fault
use Rattle.kind.specs.Actions.{action_of}
use Rattle.ipv6.specs.declared.said.Said.{Said}
use Rattle.ipv6.specs.Rules.{rule_of}

-- a port is a number 0 to 65535; else there is a fault at p
abbrev pub port_or : ℕ → Option ℕ → Result ℕ PortFault
port_or p (Some n) = cond (nat_le n 65535) (Ok n) (Err (Number p))
port_or p None = Err (Number p)

-- the port that a field says, in decimal
abbrev pub port_at : Part → Result ℕ PortFault
port_at f = port_or f.place (decimal f.text)

-- a port that is given
abbrev pub given_port : Result ℕ PortFault → Result (Option ℕ) PortFault
given_port (Ok n) = Ok (Some n)
given_port (Err e) = Err e

-- the port of a line, if it has a field for one
abbrev pub port_of : Option Part → Result (Option ℕ) PortFault
port_of None = Ok None
port_of (Some f) = given_port (port_at f)

-- what the three fields say together; the first fault counts
abbrev pub said_of : Result Action LineFault → Result Prefix AddressFault → Result (Option ℕ) PortFault → Result Said RuleFault
said_of (Err f) a p = Err (fault.Line f)
said_of (Ok w) (Err f) p = Err (fault.Address f)
said_of (Ok w) (Ok a) (Err f) = Err (fault.Port f)
said_of (Ok w) (Ok a) (Ok p) = Ok (record { action = w; prefix = a; port = p })

-- what the fields of a line say: an action, an address with an optional length, and an optional port
abbrev pub parts_said : Parts → Result Said RuleFault
parts_said p = said_of (action_of p.action.text p.action.place) (in_line p.second.place (prefix p.second.text)) (port_of p.third)

-- the same, where the line has fields; else its fault
abbrev pub unless_fault : Result Parts LineFault → Result Said RuleFault
unless_fault (Err f) = Err (fault.Line f)
unless_fault (Ok p) = parts_said p

-- what a line says
abbrev pub line_said : List ℕ → Result Said RuleFault
line_said line = unless_fault (line_fields line)

-- the rule of what a line says, where the line says something; else its fault
abbrev pub ruled : Result Said RuleFault → Result Rule RuleFault
ruled (Ok s) = Ok (rule_of s)
ruled (Err e) = Err e

-- the rule that a line says
abbrev pub ipv6_rule : List ℕ → Result Rule RuleFault
ipv6_rule line = ruled (line_said line)
