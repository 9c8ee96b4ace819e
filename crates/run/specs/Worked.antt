-- The engine calls of a whole run, and with them when there is no room.
use Rattle.std.specs.Prelude.{List, [], ◌∷◌}
use Rattle.engine.specs.Does.{Rooms, View}
use Rattle.engine.specs.Rows.{ran}
use Rattle.kind.specs.Kinds.{Reading}
use Rattle.steps.specs.Steps.{wipe_steps}
use Rattle.filter.specs.Answers.{Answer}
use Rattle.filter.specs.Books.{Books}
use Rattle.filter.specs.Calls.{refusal, drawn}
use Rattle.filter.specs.Turns.{Went}
use Rattle.run.specs.declared.call.Call.{Call}
use Rattle.run.specs.Calls.{asked}

-- the view of an engine on which a new filter stands
abbrev pub fresh : (R : Rooms) → View R.Shape → View R.Shape
fresh R e = (ran R e (wipe_steps [])).0

-- from the view e and the books b: each call makes its own engine calls, which lead to the view of the next one, and tells of no room exactly where one of them does
abbrev pub Worked : (R : Rooms) → Reading → View R.Shape → Books → List Call → List Answer → Type 0
Worked R k e b [] [] = Unit {0}
Worked R k e b [] (a ∷ xs) = ⊥
Worked R k e b (c ∷ cs) [] = ⊥
Worked R k e b (c ∷ cs) (a ∷ xs) = (e' : View R.Shape) × Went R (refusal k e.vars b (asked c)) k b (asked c) e e' a × Worked R k e' (drawn k b (asked c) a) cs xs
