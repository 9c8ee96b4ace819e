-- What the steps of an add do to an engine.
use Rattle.std.specs.Prelude.{◌≡◌, ℕ, Bool, false, List, [], Ok, Err, Result}
use Rattle.engine.specs.declared.fault.EngineFault.{EngineFault}
use Rattle.engine.specs.Ops.{Bits}
use Rattle.engine.specs.Does.{Rooms, View, Says}
use Rattle.engine.specs.Rows.{Ran, ran}
use Rattle.kind.specs.declared.rule.Rule.{Rule}
use Rattle.steps.specs.declared.scratch.Scratch.{Scratch}
use Rattle.steps.specs.Steps.{scratch, find_steps, work_steps, store_steps, sweep_steps, rebuild_steps, replace_steps}

-- the steps before the draft's registers are written, and what the test among them said
pub record Works (R : Rooms) (w : Scratch) (rule : Rule) (n : ℕ) (e e' : View R.Shape) (r : Result Bool EngineFault) : Type 0 where
  pub row : Ran R (work_steps w rule n) e e' r
  -- the test came after the calls that lead to the view mid
  pub idle : (x : Bool) → r ≡ Ok x → (mid : View R.Shape) × (ran R e (find_steps w 2 rule n []) ≡ (mid, Ok tt)) × Says x ((s : Bits) → mid.regs w.fresh s ≡ false)

-- after a refusal the scratch registers were cleared, and nothing was done otherwise
abbrev pub Swept : {A : Type 0} (R : Rooms) → View R.Shape → View R.Shape → Result A EngineFault → Type 0
Swept R at e' (Ok x) = e' ≡ at
Swept R at e' (Err f) = Ran {A = Unit {0}} R sweep_steps at e' (Ok tt)

-- all the calls of an add, or those up to a refusal and the clearing after it
abbrev pub Admits : (R : Rooms) → Rule → ℕ → View R.Shape → View R.Shape → Result Bool EngineFault → Type 0
Admits R rule n e e' (Ok x) = (at : View R.Shape) × Works R scratch rule n e at (Ok x) × Ran {A = Unit {0}} R (store_steps rule) at e' (Ok tt)
Admits R rule n e e' (Err f) = (at : View R.Shape) × Works R scratch rule n e at (Err f) × Ran {A = Unit {0}} R sweep_steps at e' (Ok tt)

-- all the calls of a withdraw that leaves these rules, or those up to a refusal and the clearing after it
abbrev pub Rebuilds : (R : Rooms) → List Rule → ℕ → View R.Shape → View R.Shape → Result (Unit {0}) EngineFault → Type 0
Rebuilds R rs n e e' (Ok x) = (at : View R.Shape) × Ran {A = Unit {0}} R (rebuild_steps rs n) e at (Ok tt) × Ran {A = Unit {0}} R replace_steps at e' (Ok tt)
Rebuilds R rs n e e' (Err f) = (at : View R.Shape) × Ran {A = Unit {0}} R (rebuild_steps rs n) e at (Err f) × Ran {A = Unit {0}} R sweep_steps at e' (Ok tt)
