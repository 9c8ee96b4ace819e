-- Rows of engine calls.
use Rattle.std.specs.Prelude.{◌≡◌, List, [], ◌∷◌, Ok, Err, Result}
use Rattle.engine.specs.declared.fault.EngineFault.{EngineFault}
use Rattle.engine.specs.Ops.{Op}
use Rattle.engine.specs.Does.{Rooms, View, answer, moved}

-- after a part of a row that left the view e: what the rest gives, or the refusal that ended the row
abbrev pub follow : {A V : Type 0} → Result A EngineFault → V → V × Result (Unit {0}) EngineFault → V × Result (Unit {0}) EngineFault
follow (Ok x) e rest = rest
follow (Err f) e rest = (e, Err f)

-- a row of calls, up to the first that is refused: the view after it, and the refusal if any
abbrev pub ran : (R : Rooms) → View R.Shape → List Op → View R.Shape × Result (Unit {0}) EngineFault
ran R e [] = (e, Ok tt)
ran R e (op ∷ ops) = follow (answer {A = Unit {0}} tt e.vars (R.full e.shape op) op) e (ran R (moved R op e) ops)

-- these calls were made, from the view e to the view e', with the answer r; ops puts them before any others
pub record Ran {A : Type 0} (R : Rooms) (ops : List Op → List Op) (e e' : View R.Shape) (r : Result A EngineFault) : Type 0 where
  pub goes : (rest : List Op) → ran R e (ops rest) ≡ follow r e' (ran R e' rest)
