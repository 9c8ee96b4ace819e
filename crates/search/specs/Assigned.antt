-- One bit of an assignment's bytes is written.
use Rattle.std.specs.Prelude.{◌≡◌, ℕ, ◌≤◌, Bool, cond, List, ◌==◌}
use Rattle.engine.specs.Ops.{bit_at}

-- variable v becomes b, and the others stay
abbrev pub Assigned : List ℕ → ℕ → Bool → List ℕ → Type 0
Assigned s v b t = (u : ℕ) → 1 ≤ u → u ≤ 144 → bit_at t u ≡ cond (u == v) b (bit_at s u)
