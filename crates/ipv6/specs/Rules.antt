-- The rule of what an IPv6 line says, and the frames that it covers.
use Rattle.std.specs.Prelude.{◌≡◌, ℕ, ◌-◌, ◌/◌, ◌^◌, List, take, drop}
use Rattle.std.specs.Int.Digits.{number_from_digits}
use Rattle.kind.specs.declared.rule.Rule.{Rule}
use Rattle.bits.specs.Frames.{counting, PortIs, value_bytes, care_bytes}
use Rattle.ipv6.specs.declared.said.Said.{Said}

-- the rule in value and care bits
abbrev pub rule_of : Said → Rule
rule_of s = record { action = s.action; value = value_bytes s.prefix.address s.port; care = care_bytes s.prefix.length s.port }

-- the number of the first k bits of an address of 128 bits
abbrev pub first_of : ℕ → ℕ → ℕ
first_of k address = address / 2 ^ (128 - k)

-- the frame's first 16 bytes have the address's bits as far as they count, and its last two bytes are the port, if one is given
pub record Covers (s : Said) (frame : List ℕ) : Type 0 where
  pub address : first_of (counting s.prefix.length) (number_from_digits 256 (take 16 frame)) ≡ first_of (counting s.prefix.length) s.prefix.address
  pub port : PortIs s.port (number_from_digits 256 (drop 16 frame))
