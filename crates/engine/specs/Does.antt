-- What a call of an engine answers, and what it leaves.
use Rattle.std.specs.Prelude.{◌≡◌, ℕ, Bool, true, false, cond, ◌&&◌, Ok, Err, Result}
use Rattle.engine.specs.declared.fault.EngineFault.{EngineFault}
use Rattle.engine.specs.declared.fault.EngineFault.TheVariants.{Register, Variable, Room}
use Rattle.engine.specs.Ops.{Op, Regs, Bits, after, regs_in, var_in, may_lack}

-- a fault's number
abbrev pub fault_number : EngineFault → ℕ
fault_number Register = 11
fault_number Variable = 12
fault_number Room = 17

-- how an engine's room goes: a state, when that state lacks room for a call, and the state after an answered call
pub record Rooms : Type 1 where
  pub Shape : Type 0
  pub full : Shape → Op → Bool
  pub next : Shape → Op → Shape

-- what an engine means: the number of variables, the sixteen functions, and the state that its room depends on
pub record View (S : Type 0) : Type 0 where
  pub vars : ℕ
  pub regs : Regs
  pub shape : S

-- the answer of a call that gives x where it is not refused: first the registers are tested, then the variable, then the room
abbrev pub answer : {A : Type 0} → A → ℕ → Bool → Op → Result A EngineFault
answer x n full op = cond (regs_in op) (cond (var_in n op) (cond (may_lack op && full) (Err Room) (Ok x)) (Err Variable)) (Err Register)

-- the view after an answered call
abbrev pub moved : (R : Rooms) → Op → View R.Shape → View R.Shape
moved R op e = record { vars = e.vars; regs = after op e.regs; shape = R.next e.shape op }

-- the view after a call: a refused one changes nothing
abbrev pub landed : {A : Type 0} → (R : Rooms) → Op → Result A EngineFault → View R.Shape → View R.Shape
landed R op (Ok x) e = moved R op e
landed R op (Err f) e = e

-- one call, from the view e to the view e'
pub record Does {A : Type 0} (R : Rooms) (op : Op) (x : A) (e e' : View R.Shape) (r : Result A EngineFault) : Type 0 where
  pub told : r ≡ answer x e.vars (R.full e.shape op) op
  pub left : e' ≡ landed R op r e

-- x is true exactly where P holds
abbrev pub Says : Bool → Type 0 → Type 0
Says x P = (x ≡ true → P) × (P → x ≡ true)

-- the test of register a: true exactly where it is false under every assignment
pub record Tests (R : Rooms) (a : ℕ) (e e' : View R.Shape) (r : Result Bool EngineFault) : Type 0 where
  pub yes_no : Bool
  pub says : Says yes_no ((s : Bits) → e.regs a s ≡ false)
  pub does : Does R (Op.empty a) yes_no e e' r
