-- What each call of a filter answers, and the books after it, in terms of the two books alone.
use Rattle.std.specs.Prelude.{◌≡◌, ℕ, ◌+◌, ◌-◌, cond, ◌&&◌, ◌⊎◌, List, [], ◌∷◌, ◌++◌, length, Some, None, Ok, Err, Option, Result, ◌==◌, nat_le, nat_lt}
use Rattle.std.specs.List.{remove}
use Rattle.engine.specs.declared.fault.EngineFault.TheVariants as engine
use Rattle.engine.specs.Ops.{Bits, bit_at}
use Rattle.engine.specs.Does.{Says}
use Rattle.kind.specs.declared.rule.Rule.{Rule}
use Rattle.kind.specs.declared.rule.Action.{Action}
use Rattle.kind.specs.declared.rule.Action.TheVariants.{Block, Pass}
use Rattle.kind.specs.declared.fault.RuleFault.{RuleFault}
use Rattle.kind.specs.declared.fault.FrameFault.{FrameFault}
use Rattle.kind.specs.Kinds.{Reading, over}
use Rattle.kind.specs.Rules.{judged}
use Rattle.steps.specs.Meaning.{Decides}
use Rattle.search.specs.Least.{Least}
use Rattle.filter.specs.declared.answer.Added.{Added as Done}
use Rattle.filter.specs.declared.answer.Reply.TheVariants.{Added, Committed, Verdict, Withdrawn, Alike, Differs}
use Rattle.filter.specs.declared.fault.FilterFault.{FilterFault}
use Rattle.filter.specs.declared.fault.FilterFault.TheVariants as fault
use Rattle.filter.specs.Books.{Books}
use Rattle.filter.specs.Answers.{Answer, answered}

-- what is asked of a filter
pub data Asked : Type 0 where
  adding : List ℕ → Asked
  committing : Asked
  judging : List ℕ → Asked
  withdrawing : ℕ → Asked
  -- with what the caller's place holds before
  comparing : List ℕ → Asked

-- the action of the first rule that matches, or pass
abbrev pub verdict : ℕ → List Rule → Bits → Action
verdict n rs s = cond (judged n rs s) Block Pass

-- a line that is no rule, or a draft that is full
abbrev pub add_refusal : Result Rule RuleFault → List Rule → Option FilterFault
add_refusal (Err f) draft = Some (fault.Rule f)
add_refusal (Ok r) draft = cond (nat_lt (length draft) 64) None (Some fault.Full)

-- bytes that are no frame
abbrev pub judge_refusal : Result (List ℕ) FrameFault → Option FilterFault
judge_refusal (Err f) = Some (fault.Frame f)
judge_refusal (Ok s) = None

-- the draft has no rule of that number
abbrev pub withdraw_refusal : ℕ → List Rule → Option FilterFault
withdraw_refusal i draft = cond (nat_le 1 i && nat_le i (length draft)) None (Some fault.Missing)

-- the number of bits of a frame, which has to be the engine's number n of variables
abbrev pub fitting_bits : Reading → ℕ → Result ℕ FilterFault
fitting_bits k n = cond (k.bits == n) (Ok k.bits) (Err fault.Mismatch)

-- a refusal of a call for another reason than a kind and an engine that differ, or room
abbrev pub fit_refusal : Reading → Books → Asked → Option FilterFault
fit_refusal k b (adding line) = add_refusal (k.reads line) b.draft
fit_refusal k b committing = None
fit_refusal k b (judging frame) = judge_refusal (k.turns frame)
fit_refusal k b (withdrawing i) = withdraw_refusal i b.draft
fit_refusal k b (comparing place) = None

-- the refusal of a call, whatever the engine's room; n is the engine's number of variables
abbrev pub refusal : Reading → ℕ → Books → Asked → Option FilterFault
refusal k n b c = cond (k.bits == n) (fit_refusal k b c) (Some fault.Mismatch)

-- there is no room
abbrev pub no_room : Answer
no_room = Err (fault.Engine engine.Room)

-- the rule of the line is last in the draft, with its number; it is told idle exactly where it decides no frame there
pub record Adds (k : Reading) (b : Books) (line : List ℕ) (a : Answer) : Type 0 where
  pub rule : Rule
  pub read : k.reads line ≡ Ok rule
  pub told : Done
  pub answer : a ≡ Ok (Added told)
  pub number : told.number ≡ length b.draft + 1
  pub idle : Says told.idle ((s : Bits) → Decides k.bits (b.draft ++ (rule ∷ [])) (length b.draft) s → ⊥)

-- the verdict of the live book on the frame
pub record Judges (k : Reading) (b : Books) (frame : List ℕ) (a : Answer) : Type 0 where
  pub bits : List ℕ
  pub turned : k.turns frame ≡ Ok bits
  pub answer : a ≡ Ok (Verdict (verdict k.bits b.live (bit_at bits)))

-- the books judge every frame alike
pub record Agrees (k : Reading) (b : Books) (a : Answer) : Type 0 where
  pub same : (s : Bits) → judged k.bits b.live s ≡ judged k.bits b.draft s
  pub answer : a ≡ Ok Alike

-- the least frame that they judge differently is in the first bytes of the place
pub record Shows (k : Reading) (b : Books) (place : List ℕ) (a : Answer) : Type 0 where
  pub bits : Bits
  pub least : Least k.bits (judged k.bits b.live) (judged k.bits b.draft) bits
  pub answer : a ≡ Ok (Differs (over (k.backs bits) place))

-- what a call that is not so refused may answer
abbrev pub Fair : Reading → Books → Asked → Answer → Type 0
Fair k b (adding line) a = Adds k b line a ⊎ (a ≡ no_room)
Fair k b committing a = a ≡ Ok Committed
Fair k b (judging frame) a = Judges k b frame a
Fair k b (withdrawing i) a = (a ≡ Ok Withdrawn) ⊎ (a ≡ no_room)
Fair k b (comparing place) a = Agrees k b a ⊎ (Shows k b place a ⊎ (a ≡ no_room))

abbrev pub By : Option FilterFault → Reading → Books → Asked → Answer → Type 0
By (Some f) k b c a = a ≡ Err f
By None k b c a = Fair k b c a

-- the answer is right; n is the engine's number of variables
abbrev pub Right : Reading → ℕ → Books → Asked → Answer → Type 0
Right k n b c a = By (refusal k n b c) k b c a

-- the draft with the rule of a line behind it
abbrev pub with_rule : Books → Result Rule RuleFault → Books
with_rule b (Ok r) = record { live = b.live; draft = b.draft ++ (r ∷ []) }
with_rule b (Err f) = b

-- the books after an answered call
abbrev pub changed : Reading → Books → Asked → Books
changed k b (adding line) = with_rule b (k.reads line)
changed k b committing = record { live = b.draft; draft = b.draft }
changed k b (judging frame) = b
changed k b (withdrawing i) = record { live = b.live; draft = remove b.draft (i - 1) }
changed k b (comparing place) = b

-- the books after a call: a refused one changes neither
abbrev pub drawn : Reading → Books → Asked → Answer → Books
drawn k b c a = cond (answered a) (changed k b c) b
