-- What a filter holds, and what a call does to it.
use Rattle.std.specs.Prelude.{◌≡◌, ℕ, ◌-◌, ◌⊎◌, List, [], ◌∷◌, Some, None, Ok, Err, Option, Result}
use Rattle.std.specs.List.{remove}
use Rattle.engine.specs.declared.fault.EngineFault.{EngineFault}
use Rattle.engine.specs.Ops.{Op, Bits, within, bit_at}
use Rattle.engine.specs.Does.{View, Rooms}
use Rattle.engine.specs.Rows.{ran}
use Rattle.kind.specs.declared.rule.Rule.{Rule}
use Rattle.kind.specs.Kinds.{Reading}
use Rattle.kind.specs.Rules.{judged}
use Rattle.steps.specs.Steps.{add_steps, withdraw_steps, sweep_steps}
use Rattle.steps.specs.Meaning.{meaning}
use Rattle.search.specs.Steps.{alike_steps, least_steps}
use Rattle.search.specs.Least.{Least}
use Rattle.filter.specs.declared.fault.FilterFault.{FilterFault}
use Rattle.filter.specs.Books.{Books, Held}
use Rattle.filter.specs.Answers.{Answer, engine_told}
use Rattle.filter.specs.Calls.{Asked, adding, committing, judging, withdrawing, comparing, refusal, Right, drawn}

-- the registers mean what the books say
abbrev pub Sound : {S : Type 0} → Reading → View S → Books → Type 0
Sound k e b = e.regs ≡ meaning k.bits b.live b.draft

-- the engine calls of a call that is not refused beforehand; those of a compare follow the least frame
abbrev pub Steps : Reading → Books → Asked → List Op → Type 0
Steps k b (adding line) ops = (r : Rule) × (k.reads line ≡ Ok r) × (ops ≡ add_steps r k.bits)
Steps k b committing ops = ops ≡ Op.copy 0 1 ∷ []
Steps k b (judging frame) ops = (s : List ℕ) × (k.turns frame ≡ Ok s) × (ops ≡ Op.evaluate 0 (within k.bits (bit_at s)) ∷ [])
Steps k b (withdrawing i) ops = ops ≡ withdraw_steps (remove b.draft (i - 1)) k.bits
Steps k b (comparing place) ops =
    (((s : Bits) → judged k.bits b.live s ≡ judged k.bits b.draft s) × (ops ≡ alike_steps))
    ⊎ ((s : Bits) × Least k.bits (judged k.bits b.live) (judged k.bits b.draft) s × (ops ≡ least_steps k.bits s))

-- after a refusal the scratch registers are cleared
abbrev pub settled : (R : Rooms) → View R.Shape × Result (Unit {0}) EngineFault → View R.Shape × Result (Unit {0}) EngineFault
settled R (e, Ok x) = (e, Ok x)
settled R (e, Err f) = ((ran R e (sweep_steps [])).0, Err f)

-- there are such steps, and the engine ends as they leave it, refused exactly where one of them is
pub record Made (R : Rooms) (k : Reading) (b : Books) (c : Asked) (e e' : View R.Shape) (a : Answer) : Type 0 where
  pub known : (ops : List Op) × Steps k b c ops
  pub ends : (ops : List Op) → Steps k b c ops → settled R (ran R e ops) ≡ (e', engine_told a)

-- a call that is refused beforehand leaves the engine; any other makes its steps
abbrev pub Went : (R : Rooms) → Option FilterFault → Reading → Books → Asked → View R.Shape → View R.Shape → Answer → Type 0
Went R (Some f) k b c e e' a = e' ≡ e
Went R None k b c e e' a = Made R k b c e e' a

-- a call of a filter whose registers mean what its books say, from the view e and the books b
pub record Turn (R : Rooms) (k : Reading) (c : Asked) (e : View R.Shape) (b : Books) (e' : View R.Shape) (b' : Books) (a : Answer) : Type 0 where
  -- the number of variables stays
  pub same : e'.vars ≡ e.vars
  -- the answer is the defined one
  pub right : Right k e.vars b c a
  -- and so are both books
  pub drew : b' ≡ drawn k b c a
  -- every register means what the books then say
  pub sound : Sound k e' b'
  -- a refused call leaves every register
  pub stays : (f : FilterFault) → a ≡ Err f → e'.regs ≡ e.regs
  -- the engine calls that were made, and the refusal for want of room exactly where one of them lacks it
  pub went : Went R (refusal k e.vars b c) k b c e e' a

-- the same between what a filter holds before and after; view tells what its engine means
abbrev pub Turns : (R : Rooms) → {E : Type 0} → (E → View R.Shape) → Reading → Asked → Held E → Held E → Answer → Type 0
Turns R view k c old new a = Turn R k c (view old.engine) old.books (view new.engine) new.books a
