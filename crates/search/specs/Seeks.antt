-- What the search for the least frame does to an engine.
use Rattle.std.specs.Prelude.{◌≡◌, ℕ, zero, suc, ◌<◌, Bool, true, false, ◌⊎◌, List, ◌∷◌, Some, None, Ok, Err, Option, Result}
use Rattle.engine.specs.declared.fault.EngineFault.{EngineFault}
use Rattle.engine.specs.Ops.{Op, Bits, held, bit_at}
use Rattle.engine.specs.Does.{Rooms, View, Says, Tests}
use Rattle.engine.specs.Rows.{Ran}
use Rattle.steps.specs.Steps.{sweep_steps}
use Rattle.search.specs.declared.places.Places.{Places}
use Rattle.search.specs.Steps.{places, pick_steps, differ_steps}

-- nothing is left of the differing frames with variable v held at 0
abbrev pub Void : {S : Type 0} → Places → View S → ℕ → Type 0
Void w e v = (s : Bits) → e.regs w.differing (held s v false) ≡ false

-- variable v of the differing frames is fixed
pub record Chooses (R : Rooms) (w : Places) (v : ℕ) (e e' : View R.Shape) (r : Result Bool EngineFault) : Type 0 where
  pub row : (x : Bool) → Says x (Void w e v) → Ran R (pick_steps w v x) e e' r
  pub some : (x : Bool) × Ran R (pick_steps w v x) e e' r
  pub right : (x : Bool) → r ≡ Ok x → Says x (Void w e v)

-- variables 1 to k of the differing frames are fixed, as s has them
abbrev pub Trail : (R : Rooms) → Places → Bits → ℕ → View R.Shape → View R.Shape → Type 0
Trail R w s zero e e' = e' ≡ e
Trail R w s (suc k) e e' = (m : View R.Shape) × Trail R w s k e m × Chooses R w (suc k) m e' (Ok (s (suc k)))

-- all n of them, or those up to a refusal
abbrev pub Hunts : (R : Rooms) → Places → ℕ → View R.Shape → View R.Shape → Result (List ℕ) EngineFault → Type 0
Hunts R w n e e' (Ok bits) = Trail R w (bit_at bits) n e e'
Hunts R w n e e' (Err f) = (s : Bits) × (k : ℕ) × (m : View R.Shape) × (k < n) × Trail R w s k e m × Chooses R w (suc k) m e' (Err f)

-- the calls of a compare: the books are alike, or differ, or a call is refused
abbrev pub Seeks : (R : Rooms) → ℕ → View R.Shape → View R.Shape → Result (Option (List ℕ)) EngineFault → Type 0
Seeks R n e e' (Ok None) = (mid : View R.Shape) × (at : View R.Shape) × Ran {A = Unit {0}} R (differ_steps places 0 1) e mid (Ok tt) × Tests R 9 mid at (Ok true) × Ran {A = Unit {0}} R (λ rest. Op.clear 9 ∷ rest) at e' (Ok tt)
Seeks R n e e' (Ok (Some bits)) = (mid : View R.Shape) × (at : View R.Shape) × (end : View R.Shape) × Ran {A = Unit {0}} R (differ_steps places 0 1) e mid (Ok tt) × Tests R 9 mid at (Ok false) × Trail R places (bit_at bits) n at end × Ran {A = Unit {0}} R (λ rest. Op.clear 9 ∷ rest) end e' (Ok tt)
Seeks R n e e' (Err f) =
    Ran {A = Unit {0}} R (differ_steps places 0 1) e e' (Err f)
    ⊎ (((mid : View R.Shape) × Ran {A = Unit {0}} R (differ_steps places 0 1) e mid (Ok tt) × Tests R 9 mid e' (Err f))
    ⊎ ((mid : View R.Shape) × (at : View R.Shape) × Ran {A = Unit {0}} R (differ_steps places 0 1) e mid (Ok tt) × Tests R 9 mid at (Ok false) × Hunts R places n at e' (Err f)))

-- the calls of a compare, or those up to a refusal and the clearing after it
abbrev pub Finds : (R : Rooms) → ℕ → View R.Shape → View R.Shape → Result (Option (List ℕ)) EngineFault → Type 0
Finds R n e e' (Ok x) = Seeks R n e e' (Ok x)
Finds R n e e' (Err f) = (at : View R.Shape) × Seeks R n e at (Err f) × Ran {A = Unit {0}} R sweep_steps at e' (Ok tt)
