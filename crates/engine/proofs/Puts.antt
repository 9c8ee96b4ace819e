-- Meanings given to registers.
use Rattle.std.proofs.Common.{◌≡◌, ℕ, Bool, true, false, cond, eqb, ◌⊎◌, refl, ap, inl, inr, eq-eqb}
use Rattle.std.proofs.lemmas.Bool.{cases_eq, ne_eqb}
use mathlib.Core.Path.{fun_ext}
use Rattle.engine.specs.Ops.{Regs, Bits, put}

-- two numbers are equal, or the test says that they are not
pub by_eq : (w v : ℕ) → (w ≡ v) ⊎ (eqb w v ≡ false)
by_eq w v = elim (cases_eq w v) [ inl e ↦ inl e | inr n ↦ inr (ne_eqb w v n) ]

pub put_self : (m : Regs) (d : ℕ) → m ≡ put m d (m d)
put_self m d = fun_ext λ r. elim (by_eq r d) as (λ _. m r ≡ put m d (m d) r) [ inl e ↦ rw (eq-eqb r d e) (ap m e) | inr n ↦ rw n refl ]

pub put_twice : (m : Regs) (d : ℕ) (f g : Bits → Bool) → put (put m d f) d g ≡ put m d g
put_twice m d f g = fun_ext λ r. go (eqb r d) (m r)
  where
    go : (b : Bool) (x : Bits → Bool) → cond b g (cond b f x) ≡ cond b g x
    go true x = refl
    go false x = refl
