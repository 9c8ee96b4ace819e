-- The calls of an engine, and what each does to the meaning of the sixteen registers.
use Rattle.std.specs.Prelude.{◌≡◌, ℕ, zero, suc, ◌+◌, ◌-◌, ◌*◌, ◌/◌, ◌%◌, ◌^◌, ◌≤◌, Bool, true, false, cond, not, ◌&&◌, List, ◌==◌, nat_le, slice_index}

-- an assignment: the value of each variable, by its number
abbrev pub Bits : Type 0
Bits = ℕ → Bool

-- the Boolean function that each register means, by its number
abbrev pub Regs : Type 0
Regs = ℕ → Bits → Bool

-- two assignments give variables 1 to n the same values
abbrev pub Agree : ℕ → Bits → Bits → Type 0
Agree n s t = (v : ℕ) → 1 ≤ v → v ≤ n → s v ≡ t v

-- the assignment that bytes spell: variable 1 is the top bit of the first byte
abbrev pub bit_at : List ℕ → Bits
bit_at bytes v = (slice_index bytes ((v - 1) / 8) / 2 ^ (7 - (v - 1) % 8)) % 2 == 1

-- the number that variables 1 to n spell, variable 1 highest
abbrev pub spelt : ℕ → Bits → ℕ
spelt zero s = 0
spelt (suc v) s = 2 * spelt v s + cond (s (suc v)) 1 0

-- the calls, with their registers, variable, bit and assignment
pub data Op : Type 0 where
  clear : ℕ → Op
  copy : ℕ → ℕ → Op
  negate : ℕ → ℕ → Op
  literal : ℕ → ℕ → Op
  meet : ℕ → ℕ → ℕ → Op
  evaluate : ℕ → Bits → Op
  fix : ℕ → ℕ → ℕ → Bool → Op
  forall : ℕ → ℕ → ℕ → Op
  empty : ℕ → Op

-- register d is given the meaning f, and the others keep theirs
abbrev pub put : Regs → ℕ → (Bits → Bool) → Regs
put m d f r = cond (r == d) f (m r)

-- variable v is held at b
abbrev pub held : Bits → ℕ → Bool → Bits
held s v b w = cond (w == v) b (s w)

-- variables 1 to n of an assignment; the others are taken as 0
abbrev pub within : ℕ → Bits → Bits
within n s v = cond (nat_le 1 v && nat_le v n) (s v) false

-- the meaning of the registers after an answered call
abbrev pub after : Op → Regs → Regs
after (clear d) m = put m d (λ _. false)
after (copy d a) m = put m d (m a)
after (negate d a) m = put m d (λ s. not (m a s))
after (literal d v) m = put m d (λ s. s v)
after (meet d a b) m = put m d (λ s. m a s && m b s)
after (evaluate a s) m = m
after (fix d a v b) m = put m d (λ s. m a (held s v b))
after (forall d a v) m = put m d (λ s. m a (held s v false) && m a (held s v true))
after (empty a) m = m

-- every register that the call names is one of the sixteen
abbrev pub regs_in : Op → Bool
regs_in (clear d) = nat_le d 15
regs_in (copy d a) = nat_le d 15 && nat_le a 15
regs_in (negate d a) = nat_le d 15 && nat_le a 15
regs_in (literal d v) = nat_le d 15
regs_in (meet d a b) = nat_le d 15 && (nat_le a 15 && nat_le b 15)
regs_in (evaluate a s) = nat_le a 15
regs_in (fix d a v b) = nat_le d 15 && nat_le a 15
regs_in (forall d a v) = nat_le d 15 && nat_le a 15
regs_in (empty a) = nat_le a 15

-- the variable that the call names, if any, is one of 1 to n
abbrev pub var_in : ℕ → Op → Bool
var_in n (clear d) = true
var_in n (copy d a) = true
var_in n (negate d a) = true
var_in n (literal d v) = nat_le 1 v && nat_le v n
var_in n (meet d a b) = true
var_in n (evaluate a s) = true
var_in n (fix d a v b) = nat_le 1 v && nat_le v n
var_in n (forall d a v) = nat_le 1 v && nat_le v n
var_in n (empty a) = true

-- the calls that may find no room
abbrev pub may_lack : Op → Bool
may_lack (clear d) = false
may_lack (copy d a) = false
may_lack (negate d a) = true
may_lack (literal d v) = true
may_lack (meet d a b) = true
may_lack (evaluate a s) = false
may_lack (fix d a v b) = true
may_lack (forall d a v) = true
may_lack (empty a) = true
