-- The law over whole runs of calls, in the words of rules, books and frames.
use Rattle.std.specs.Prelude.{◌≡◌, ℕ, zero, suc, ◌+◌, ◌≤◌, Bool, true, false, ◌⊎◌, List, [], ◌∷◌, ◌++◌, length, replicate, Some, None, Ok, Err, Option}
use Rattle.engine.specs.declared.fault.EngineFault.TheVariants as engine
use Rattle.engine.specs.Ops.{Bits, bit_at, spelt}
use Rattle.engine.specs.Does.{Says}
use Rattle.kind.specs.declared.rule.Rule.{Rule}
use Rattle.kind.specs.declared.rule.Action.{Action}
use Rattle.kind.specs.declared.rule.Action.TheVariants.{Pass}
use Rattle.kind.specs.Kinds.{Reading, Bytes, over}
use Rattle.kind.specs.Rules.{Matches}
use Rattle.filter.specs.declared.answer.Added.{Added as Done}
use Rattle.filter.specs.declared.answer.Reply.TheVariants.{Added, Committed, Verdict, Withdrawn, Alike, Differs}
use Rattle.filter.specs.declared.fault.FilterFault.{FilterFault}
use Rattle.filter.specs.declared.fault.FilterFault.TheVariants as fault
use Rattle.filter.specs.Answers.{Answer}
use Rattle.filter.specs.Books.{Books}
use Rattle.filter.specs.Calls.{Asked, adding, committing, judging, withdrawing, comparing, refusal, drawn, no_room}

-- the kind takes the bytes f as a frame, whose bits the bytes t spell
abbrev pub Frame : Reading → List ℕ → List ℕ → Type 0
Frame k f t = Bytes f × (k.turns f ≡ Ok t)

-- the rule at place i, counted from 0, decides a frame: it matches it, and none before it does
abbrev pub Decides : ℕ → List Rule → ℕ → Bits → Type 0
Decides n [] i s = ⊥
Decides n (r ∷ rs) zero s = Matches n r s
Decides n (r ∷ rs) (suc i) s = (Matches n r s → ⊥) × Decides n rs i s

-- a list of rules judges a frame by the action of the first rule that matches it, else pass
abbrev pub Judges : ℕ → List Rule → Bits → Action → Type 0
Judges n [] s x = x ≡ Pass
Judges n (r ∷ rs) s x = (Matches n r s → x ≡ r.action) × ((Matches n r s → ⊥) → Judges n rs s x)

-- every frame is judged in just one way
abbrev pub JudgedOnce : Type 0
JudgedOnce = (n : ℕ) (rs : List Rule) (s : Bits) → (x : Action) × Judges n rs s x × ((y : Action) → Judges n rs s y → y ≡ x)

-- both books judge the frame alike
abbrev pub SameAt : ℕ → Books → Bits → Type 0
SameAt n b s = (x y : Action) → Judges n b.live s x → Judges n b.draft s y → x ≡ y

-- an add tells the rule's number, and idle exactly where the rule decides no frame in the draft that it now stands in
pub record Adds (k : Reading) (b : Books) (line : List ℕ) (a : Answer) : Type 0 where
  pub rule : Rule
  pub read : k.reads line ≡ Ok rule
  pub told : Done
  pub answer : a ≡ Ok (Added told)
  pub place : told.number ≡ length b.draft + 1
  pub idle : Says told.idle ((f t : List ℕ) → Frame k f t → Decides k.bits (b.draft ++ (rule ∷ [])) (length b.draft) (bit_at t) → ⊥)

-- a judge tells how the live book judges the frame
pub record Decided (k : Reading) (b : Books) (frame : List ℕ) (a : Answer) : Type 0 where
  pub bits : List ℕ
  pub turned : k.turns frame ≡ Ok bits
  pub action : Action
  pub judged : Judges k.bits b.live (bit_at bits) action
  pub answer : a ≡ Ok (Verdict action)

-- a compare says alike where both books judge every frame alike
pub record Agrees (k : Reading) (b : Books) (a : Answer) : Type 0 where
  pub same : (f t : List ℕ) → Frame k f t → SameAt k.bits b (bit_at t)
  pub answer : a ≡ Ok Alike

-- otherwise it shows a frame that they judge differently, and no frame with a smaller number, its bits read with bit 1 highest, is judged differently
pub record Shows (k : Reading) (b : Books) (a : Answer) : Type 0 where
  pub frame : List ℕ
  pub bits : List ℕ
  pub taken : Frame k frame bits
  pub differs : SameAt k.bits b (bit_at bits) → ⊥
  pub least : (f t : List ℕ) → Frame k f t → (SameAt k.bits b (bit_at t) → ⊥) → spelt k.bits (bit_at bits) ≤ spelt k.bits (bit_at t)
  pub answer : a ≡ Ok (Differs (over frame (replicate 18 0)))

-- what a call that is not refused beforehand is answered; only the room is left open by the books
abbrev pub Told : Reading → Books → Asked → Answer → Type 0
Told k b (adding line) a = Adds k b line a ⊎ (a ≡ no_room)
Told k b (withdrawing i) a = (a ≡ Ok Withdrawn) ⊎ (a ≡ no_room)
Told k b committing a = a ≡ Ok Committed
Told k b (judging frame) a = Decided k b frame a
Told k b (comparing place) a = Agrees k b a ⊎ (Shows k b a ⊎ (a ≡ no_room))

-- the defined refusal, with its place, or the answer
abbrev pub Answers : Option FilterFault → Reading → Books → Asked → Answer → Type 0
Answers (Some f) k b c a = a ≡ Err f
Answers None k b c a = Told k b c a

-- what was asked and the answers, from the books b: each is right for the books that the calls before it left; n is the engine's number of variables
abbrev pub Holds : Reading → ℕ → Books → List Asked → List Answer → Type 0
Holds k n b [] [] = Unit {0}
Holds k n b [] (a ∷ xs) = ⊥
Holds k n b (c ∷ cs) [] = ⊥
Holds k n b (c ∷ cs) (a ∷ xs) = Answers (refusal k n b c) k b c a × Holds k n (drawn k b c a) cs xs

-- the fault is want of room
abbrev pub wants : FilterFault → Bool
wants (fault.Rule f) = false
wants (fault.Frame f) = false
wants (fault.Engine engine.Register) = false
wants (fault.Engine engine.Variable) = false
wants (fault.Engine engine.Room) = true
wants fault.Mismatch = false
wants fault.Full = false
wants fault.Missing = false

-- the answer tells of no room
abbrev pub lacks : Answer → Bool
lacks (Ok x) = false
lacks (Err f) = wants f

-- the same answers up to the first call at which either tells of no room
abbrev pub Together : List Answer → List Answer → Type 0
Together [] [] = Unit {0}
Together [] (a ∷ xs) = ⊥
Together (a ∷ xs) [] = ⊥
Together (a ∷ xs) (z ∷ zs) = lacks a ≡ false → lacks z ≡ false → (a ≡ z) × Together xs zs
