-- Clearing every register.
use Rattle.std.proofs.Common.{◌≡◌, ℕ, suc, ◌+◌, ◌-◌, ◌<◌, Bool, false, cond, ◌⊎◌, List, Ok, Err, Result, sym, refl, ap, ◌∙◌, inl, inr, arith, eq-eqb, ne_eqb, le-leb}
use Rattle.std.proofs.lemmas.Bool.{cases_eq}
use Rattle.engine.specs.declared.fault.EngineFault.{EngineFault}
use Rattle.engine.specs.declared.fault.EngineFault.TheVariants.{Register}
use Rattle.engine.specs.Ops.{Op, Bits, put}
use Rattle.engine.specs.Does.{Does, Rooms, View, landed, moved}
use Rattle.engine.specs.Rows.{ran, follow}
use Rattle.steps.specs.Steps.{clears}

-- registers below d are false, as the row of their clears has it
pub record Wiped (R : Rooms) (d : ℕ) (e₀ e : View R.Shape) : Type 0 where
  pub vars : e.vars ≡ e₀.vars
  pub regs : (r : ℕ) → r < d → (s : Bits) → e.regs r s ≡ false
  pub goes : (rest : List Op) → ran R e₀ (clears 0 16 rest) ≡ ran R e (clears d (16 - d) rest)

-- a register that there is can be cleared
cleared : (R : Rooms) (d : ℕ) (e e' : View R.Shape) (r : Result (Unit {0}) EngineFault) → d < 16 → Does R (Op.clear d) tt e e' r → e' ≡ moved R (Op.clear d) e
cleared R d e e' r h does = does.left ∙ ap (λ (x : Result (Unit {0}) EngineFault). landed R (Op.clear d) x e) (does.told ∙ ap (λ (b : Bool). cond b (Ok tt) (Err Register)) (le-leb d 15 (omega arith)))

pub wipe_more : (R : Rooms) (d : ℕ) (e₀ e e' : View R.Shape) (r : Result (Unit {0}) EngineFault) → d < 16 → Does R (Op.clear d) tt e e' r → Wiped R d e₀ e → Wiped R (d + 1) e₀ e'
wipe_more R d e₀ e e' r h does w = record {
  vars = ap (λ (v : View R.Shape). v.vars) after ∙ w.vars;
  regs = λ x l s. ap (λ (v : View R.Shape). v.regs x s) after ∙ here x l s (cases_eq x d);
  goes = λ rest. w.goes rest ∙ ap (λ (k : ℕ). ran R e (clears d k rest)) left ∙ one rest ∙ ap (λ (v : View R.Shape). ran R v (clears (d + 1) (16 - (d + 1)) rest)) (sym after);
}
  where
    after : e' ≡ moved R (Op.clear d) e
    after = cleared R d e e' r h does

    left : 16 - d ≡ suc (16 - (d + 1))
    left = omega arith

    here : (x : ℕ) → x < d + 1 → (s : Bits) → (x ≡ d) ⊎ (x ≡ d → ⊥) → put e.regs d (λ _. false) x s ≡ false
    here x l s (inl q) = rw (eq-eqb x d q) refl
    here x l s (inr n) = rw (ne_eqb x d n) (w.regs x (omega arith) s)

    one : (rest : List Op) → ran R e (clears d (suc (16 - (d + 1))) rest) ≡ ran R (moved R (Op.clear d) e) (clears (d + 1) (16 - (d + 1)) rest)
    one rest = ap (λ (b : Bool). follow {A = Unit {0}} (cond b (Ok tt) (Err Register)) e (ran R (moved R (Op.clear d) e) (clears (d + 1) (16 - (d + 1)) rest))) (le-leb d 15 (omega arith))
