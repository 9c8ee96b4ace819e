-- Variables by their numbers.
use Rattle.std.specs.Prelude.{◌≡◌, ℕ, false, ◌&&◌, Result, MatchResult, nat_le}
use Rattle.engine.specs.declared.fault.EngineFault.{EngineFault}
use Rattle.engine.specs.declared.fault.EngineFault.TheVariants as fault
use Rattle.word.specs.declared.variable.Variable.{Variable}

-- the result is variable v of n, or the refusal of a v that is not 1 to n
abbrev pub NamesVariable : ℕ → ℕ → Result Variable EngineFault → Type 0
NamesVariable n v r = MatchResult r (λ x. (x.n ≡ n) × (x.v ≡ v)) (λ f. (f ≡ fault.Variable) × ((nat_le 1 v && nat_le v n) ≡ false))
