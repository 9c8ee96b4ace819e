-- The test for a match and the relation.
use Rattle.std.proofs.Common.{◌≡◌, ℕ, zero, suc, ◌+◌, ◌<◌, ◌≤◌, Bool, true, false, cond, not, Decides, refl, ap, inl, inr, arith}
use Rattle.std.proofs.lemmas.Bool.{cases_lt, not-true}
use Rattle.std.proofs.lemmas.Bool.Decides.{Decides-and, Decides-like}
use Rattle.engine.specs.Ops.{Bits, bit_at}
use Rattle.kind.specs.declared.rule.Rule.{Rule}
use Rattle.kind.specs.Rules.{agrees_at, agrees, Matching}

-- the rule agrees with the frame at the bit, as a relation
abbrev AgreesAt : Rule → Bits → ℕ → Type 0
AgreesAt r s v = bit_at r.care v ≡ true → s v ≡ bit_at r.value v

agree_at : (a b x : Bool) → Decides (cond a (cond b x (not x)) true) (a ≡ true → x ≡ b)
agree_at true true x = (λ e c. e, λ h. h refl)
agree_at true false x = (λ e c. not-true x e, λ h. ap not (h refl))
agree_at false b x = (λ e c. cc, λ h. refl)

agree : (r : Rule) (s : Bits) (u k : ℕ) → Decides (agrees r s u k) ((v : ℕ) → u ≤ v → v < u + k → AgreesAt r s v)
agree r s u zero = (λ e v l m. absurd (omega arith), λ h. refl)
agree r s u (suc k) =
    Decides-like (agrees r s u (suc k)) (λ h v l m. elim (cases_lt u v) [ inl p ↦ h.1 v p (omega arith) | inr p ↦ (let e : v ≡ u = omega arith in rw e h.0) ])
    (λ h. (h u (omega arith) (omega arith), λ v l m. h v (omega arith) (omega arith)))
    (Decides-and (agrees_at r s u) (agrees r s (suc u) k) (agree_at (bit_at r.care u) (bit_at r.value u) (s u)) (agree r s (suc u) k))

pub matching : Matching
matching n r s = Decides-like (agrees r s 1 n) (λ h v l m. h v l (omega arith)) (λ h v l m. h v l (omega arith)) (agree r s 1 n)
