-- The results of a filter's calls as answers.
use Rattle.std.specs.Prelude.{◌≡◌, ℕ, Bool, true, false, List, Ok, Err, Result}
use Rattle.engine.specs.declared.fault.EngineFault.{EngineFault}
use Rattle.kind.specs.declared.rule.Action.{Action}
use Rattle.filter.specs.declared.answer.Added.{Added as Done}
use Rattle.filter.specs.declared.answer.Comparison.{Comparison}
use Rattle.filter.specs.declared.answer.Comparison.TheVariants as compared
use Rattle.filter.specs.declared.answer.Reply.{Reply}
use Rattle.filter.specs.declared.answer.Reply.TheVariants.{Added, Committed, Verdict, Withdrawn, Alike, Differs}
use Rattle.filter.specs.declared.fault.FilterFault.{FilterFault}
use Rattle.filter.specs.declared.fault.FilterFault.TheVariants as fault

-- what a call answers: a reply, or the fault for which it is refused
abbrev pub Answer : Type 0
Answer = Result Reply FilterFault

abbrev pub added_as : Result Done FilterFault → Answer
added_as (Ok x) = Ok (Added x)
added_as (Err f) = Err f

abbrev pub committed_as : Result (Unit {0}) FilterFault → Answer
committed_as (Ok x) = Ok Committed
committed_as (Err f) = Err f

abbrev pub judged_as : Result Action FilterFault → Answer
judged_as (Ok a) = Ok (Verdict a)
judged_as (Err f) = Err f

abbrev pub withdrawn_as : Result (Unit {0}) FilterFault → Answer
withdrawn_as (Ok x) = Ok Withdrawn
withdrawn_as (Err f) = Err f

-- with what the caller's place holds after
abbrev pub compared_as : Result Comparison FilterFault → List ℕ → Answer
compared_as (Ok compared.Alike) p = Ok Alike
compared_as (Ok compared.Differs) p = Ok (Differs p)
compared_as (Err f) p = Err f

-- the caller's place stays, unless a frame was found
abbrev pub Stays : Result Comparison FilterFault → List ℕ → List ℕ → Type 0
Stays (Ok compared.Alike) p q = q ≡ p
Stays (Ok compared.Differs) p q = Unit {0}
Stays (Err f) p q = q ≡ p

-- the call was answered, not refused
abbrev pub answered : Answer → Bool
answered (Ok x) = true
answered (Err f) = false

-- what a fault tells of the engine
abbrev pub engine_fault : FilterFault → Result (Unit {0}) EngineFault
engine_fault (fault.Rule f) = Ok tt
engine_fault (fault.Frame f) = Ok tt
engine_fault (fault.Engine f) = Err f
engine_fault fault.Mismatch = Ok tt
engine_fault fault.Full = Ok tt
engine_fault fault.Missing = Ok tt

-- what an answer tells of the engine's calls
abbrev pub engine_told : Answer → Result (Unit {0}) EngineFault
engine_told (Ok x) = Ok tt
engine_told (Err f) = engine_fault f
