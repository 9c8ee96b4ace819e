-- The least assignment at which two functions differ.
use Rattle.std.specs.Prelude.{◌≡◌, ℕ, ◌<◌, ◌≤◌, Bool, true, false, ◌≢◌}
use Rattle.engine.specs.Ops.{Bits}

-- s is below t as numbers of n bits, bit 1 the highest: the first bit at which they differ decides
pub record Below (n : ℕ) (s t : Bits) : Type 0 where
  pub at : ℕ
  pub from : 1 ≤ at
  pub to : at ≤ n
  pub before : (u : ℕ) → 1 ≤ u → u < at → s u ≡ t u
  pub low : s at ≡ false
  pub high : t at ≡ true

-- f and g differ at s, and at none below it
pub record Least (n : ℕ) (f g : Bits → Bool) (s : Bits) : Type 0 where
  pub differ : f s ≡ g s → ⊥
  pub least : (t : Bits) → (f t ≢ g t) → Below n t s → ⊥
