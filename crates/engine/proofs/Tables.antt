-- Facts about every number below a bound, by computing.
use Rattle.std.proofs.Common.{◌≡◌, ℕ, zero, suc, ◌<◌, Bool, true, ◌&&◌, ◌⊎◌, ap, ◌∙◌, inl, inr, arith}
use native.Mathlib.Decide.{dec_lt}
use Rattle.std.proofs.lemmas.Bool.{and_parts}

-- a test on every number below k
abbrev pub each : ℕ → (ℕ → Bool) → Bool
each zero p = true
each (suc k) p = p k && each k p

pub each_at : (k : ℕ) (p : ℕ → Bool) → each k p ≡ true → (i : ℕ) → i < k → p i ≡ true
each_at zero p e i h = absurd (omega arith)
each_at (suc k) p e i h = go (λ h'. each_at k p (and_parts (p k) (each k p) e).1 i h') (elim (dec_lt i k) [ yes l ↦ inr l | no l ↦ inl (omega arith) ])
  where
    go : (i < k → p i ≡ true) → (i ≡ k) ⊎ (i < k) → p i ≡ true
    go less (inl q) = ap p q ∙ (and_parts (p k) (each k p) e).0
    go less (inr l) = less l
