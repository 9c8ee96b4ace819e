-- What the registers of a filter mean, by its two books.
use Rattle.std.specs.Prelude.{◌≡◌, ℕ, zero, suc, true, false, cond, List, [], ◌∷◌, ◌==◌}
use Rattle.engine.specs.Ops.{Bits, Regs}
use Rattle.kind.specs.declared.rule.Rule.{Rule}
use Rattle.kind.specs.Rules.{matches, judged, matched}

-- register 0: the frames that the live book blocks; 1: those that the draft blocks; 2: those that the draft matches; the others: none
abbrev pub meaning : ℕ → List Rule → List Rule → Regs
meaning n live draft r = cond (r == 0) (judged n live) (cond (r == 1) (judged n draft) (cond (r == 2) (matched n draft) (λ _. false)))

-- the rule at place k, counted from 0, matches the frame, and none before it does
abbrev pub Decides : ℕ → List Rule → ℕ → Bits → Type 0
Decides n [] k s = ⊥
Decides n (r ∷ rs) zero s = matches n r s ≡ true
Decides n (r ∷ rs) (suc k) s = (matches n r s ≡ false) × Decides n rs k s
