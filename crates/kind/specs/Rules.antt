-- Rules and lists of rules.
use Rattle.std.specs.Prelude.{◌≡◌, ℕ, zero, suc, ◌≤◌, Bool, true, false, cond, not, ◌&&◌, ◌||◌, List, [], ◌∷◌}
use Rattle.engine.specs.Ops.{Bits, bit_at}
use Rattle.engine.specs.Does.{Says}
use Rattle.kind.specs.declared.rule.Rule.{Rule}
use Rattle.kind.specs.declared.rule.Action.{Action}
use Rattle.kind.specs.declared.rule.Action.TheVariants.{Block, Pass}

-- the rule agrees with the frame at bit v, or that bit does not count
abbrev pub agrees_at : Rule → Bits → ℕ → Bool
agrees_at r s v = cond (bit_at r.care v) (cond (bit_at r.value v) (s v) (not (s v))) true

-- the rule agrees with the frame at each of the k bits from v on that counts
abbrev pub agrees : Rule → Bits → ℕ → ℕ → Bool
agrees r s v zero = true
agrees r s v (suc k) = agrees_at r s v && agrees r s (suc v) k

-- a rule matches a frame of n bits when they agree at every bit that counts
abbrev pub matches : ℕ → Rule → Bits → Bool
matches n r s = agrees r s 1 n

-- the same as a relation
abbrev pub Matches : ℕ → Rule → Bits → Type 0
Matches n r s = (v : ℕ) → 1 ≤ v → v ≤ n → bit_at r.care v ≡ true → s v ≡ bit_at r.value v

-- the test and the relation say the same
abbrev pub Matching : Type 0
Matching = (n : ℕ) (r : Rule) (s : Bits) → Says (matches n r s) (Matches n r s)

abbrev pub blocks : Action → Bool
blocks Block = true
blocks Pass = false

-- whether a list of rules blocks a frame: by the first rule that matches it, else not
abbrev pub judged : ℕ → List Rule → Bits → Bool
judged n [] s = false
judged n (r ∷ rs) s = cond (matches n r s) (blocks r.action) (judged n rs s)

-- whether some rule of the list matches the frame
abbrev pub matched : ℕ → List Rule → Bits → Bool
matched n [] s = false
matched n (r ∷ rs) s = matches n r s || matched n rs s
