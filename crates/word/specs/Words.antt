-- What the words of an engine mean.
use Rattle.std.specs.Prelude.{ℕ, zero, suc, ◌+◌, ◌-◌, ◌/◌, ◌%◌, ◌^◌, min, max, Bool, false, cond, List, Ok, Err, Result, ◌==◌, nat_le, slice_index}
use Rattle.engine.specs.declared.fault.EngineFault.{EngineFault}
use Rattle.engine.specs.declared.fault.EngineFault.TheVariants.{Register}
use Rattle.engine.specs.Ops.{Bits, Regs, put, spelt}
use Rattle.engine.specs.Does.{Rooms, View}

-- bit i of w
abbrev pub bit : ℕ → ℕ → Bool
bit w i = (w / 2 ^ i) % 2 == 1

-- the number below 2 ^ k that has these bits
abbrev pub number : ℕ → (ℕ → Bool) → ℕ
number zero p = 0
number (suc k) p = number k p + cond (p k) (2 ^ k) 0

-- the assignment of n variables that spells i
abbrev pub spell : ℕ → ℕ → Bits
spell n i v = bit i (n - v)

-- the word of a function of n variables: bit i, below 2 ^ n, is the value where the variables spell i
abbrev pub table : ℕ → (Bits → Bool) → ℕ
table n f = number (2 ^ n) (λ i. f (spell n i))

-- the function of n variables that a word means
abbrev pub means : ℕ → ℕ → Bits → Bool
means n w s = bit w (spelt n s)

-- the word of the function of n variables that is true everywhere
abbrev pub whole : ℕ → ℕ
whole n = 2 ^ 2 ^ n - 1

-- what the sixteen registers mean, by their words
abbrev pub word_regs : ℕ → List ℕ → Regs
word_regs n ws r s = cond (nat_le r 15) (means n (slice_index ws r) s) false

-- an engine of n variables, by the words of its registers
abbrev pub word_view : ℕ → List ℕ → View (Unit {0})
word_view n ws = record { vars = n; regs = word_regs n ws; shape = tt }

-- register d is given the function that w means
abbrev pub written : View (Unit {0}) → ℕ → ℕ → View (Unit {0})
written e d w = record { vars = e.vars; regs = put e.regs d (means e.vars w); shape = tt }

-- the word of register a, or the refusal of a register over 15
abbrev pub word_at : View (Unit {0}) → ℕ → Result ℕ EngineFault
word_at e a = cond (nat_le a 15) (Ok (table e.vars (e.regs a))) (Err Register)

-- an engine of n variables that is false in every register
abbrev pub blank : ℕ → View (Unit {0})
blank n = record { vars = n; regs = λ _ _. false; shape = tt }

-- n, or the nearest end of 1 to 6
abbrev pub near : ℕ → ℕ
near n = max 1 (min n 6)

-- the room of an engine that never lacks any
abbrev pub roomy : Rooms
roomy = record { Shape = Unit {0}; full = λ _ _. false; next = λ _ _. tt }
