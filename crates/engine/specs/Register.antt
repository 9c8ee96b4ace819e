-- Registers by their numbers.
use Rattle.std.specs.Prelude.{◌≡◌, ℕ, ◌<◌, Result, MatchResult}
use Rattle.engine.specs.declared.fault.EngineFault.{EngineFault}
use Rattle.engine.specs.declared.fault.EngineFault.TheVariants as fault
use Rattle.engine.specs.declared.register.Register.{Register}

-- the result is register d, or the refusal of a d over 15
abbrev pub Names : ℕ → Result Register EngineFault → Type 0
Names d r = MatchResult r (λ g. g.number ≡ d) (λ f. (f ≡ fault.Register) × (15 < d))
