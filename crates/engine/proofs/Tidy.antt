-- Rows that write only registers of their own.
use Rattle.std.proofs.Common.{◌≡◌, ℕ, Bool, true, false, cond, ◌&&◌, List, [], ◌∷◌, Ok, Err, Result, sym, refl, ap, ◌∙◌, subst, ne_eqb}
use Rattle.std.proofs.lemmas.Bool.{and_parts}
use Rattle.engine.specs.declared.fault.EngineFault.{EngineFault}
use Rattle.engine.specs.declared.fault.EngineFault.TheVariants.{Register, Variable, Room}
use Rattle.engine.specs.Ops.{Op, Regs, Bits, put, after, may_lack, regs_in, var_in}
use Rattle.engine.specs.Does.{Rooms, View, moved}
use Rattle.engine.specs.Rows.{ran, follow}

-- the register that the call writes, if any, is one of these
abbrev pub inner : (ℕ → Bool) → Op → Bool
inner own (Op.clear d) = own d
inner own (Op.copy d a) = own d
inner own (Op.negate d a) = own d
inner own (Op.literal d v) = own d
inner own (Op.meet d a b) = own d
inner own (Op.evaluate a s) = true
inner own (Op.fix d a v b) = own d
inner own (Op.forall d a v) = own d
inner own (Op.empty a) = true

-- such a call that names registers and variables that there are
abbrev pub tidy : (ℕ → Bool) → ℕ → Op → Bool
tidy own n op = inner own op && (regs_in op && var_in n op)

abbrev pub tidy_all : (ℕ → Bool) → ℕ → List Op → Bool
tidy_all own n [] = true
tidy_all own n (op ∷ ops) = tidy own n op && tidy_all own n ops

-- a tidy row is refused for want of room alone
abbrev pub Fit : Result (Unit {0}) EngineFault → Type 0
Fit (Ok x) = Unit {0}
Fit (Err f) = f ≡ Room

pub and_l : (a b : Bool) → (a && b) ≡ true → a ≡ true
and_l a b h = (and_parts a b h).0

pub and_r : (a b : Bool) → (a && b) ≡ true → b ≡ true
and_r a b h = (and_parts a b h).1

module _ (own : ℕ → Bool) where
  miss : (m : Regs) (d : ℕ) (f : Bits → Bool) (x : ℕ) → own d ≡ true → own x ≡ false → put m d f x ≡ m x
  miss m d f x h o = rw (ne_eqb x d (λ e. let z : true ≡ false = sym h ∙ ap own (sym e) ∙ o in cc)) refl

  stays : (op : Op) (m : Regs) (x : ℕ) → inner own op ≡ true → own x ≡ false → after op m x ≡ m x
  stays (Op.clear d) m x h o = miss m d _ x h o
  stays (Op.copy d a) m x h o = miss m d _ x h o
  stays (Op.negate d a) m x h o = miss m d _ x h o
  stays (Op.literal d v) m x h o = miss m d _ x h o
  stays (Op.meet d a b) m x h o = miss m d _ x h o
  stays (Op.evaluate a s) m x h o = refl
  stays (Op.fix d a v b) m x h o = miss m d _ x h o
  stays (Op.forall d a v) m x h o = miss m d _ x h o
  stays (Op.empty a) m x h o = refl

-- a tidy row leaves the other registers, however it ends
pub ran_tidy : (own : ℕ → Bool) (R : Rooms) (e e' : View R.Shape) (ops : List Op) (r : Result (Unit {0}) EngineFault) → ran R e ops ≡ (e', r) → tidy_all own e.vars ops ≡ true → Fit r × (e'.vars ≡ e.vars) × ((x : ℕ) → own x ≡ false → e'.regs x ≡ e.regs x)
ran_tidy own R e e' [] r h t =
    let p : e ≡ e' = ap (λ (t : View R.Shape × Result (Unit {0}) EngineFault). t.0) h in
    let q : Ok tt ≡ r = ap (λ (t : View R.Shape × Result (Unit {0}) EngineFault). t.1) h in
    (subst Fit q tt, ap (λ (v : View R.Shape). v.vars) (sym p), λ x o. ap (λ (v : View R.Shape). v.regs x) (sym p))
ran_tidy own R e e' (op ∷ ops) r h t = go (λ k w. ran_tidy own R (moved R op e) e' ops r k w) (regs_in op) (var_in e.vars op) (may_lack op && R.full e.shape op) (and_l (regs_in op) (var_in e.vars op) good) (and_r (regs_in op) (var_in e.vars op) good) h
  where
    mine : (inner own op && (regs_in op && var_in e.vars op)) ≡ true
    mine = and_l _ (tidy_all own e.vars ops) t

    theirs : tidy_all own e.vars ops ≡ true
    theirs = and_r (tidy own e.vars op) _ t

    good : (regs_in op && var_in e.vars op) ≡ true
    good = and_r (inner own op) _ mine

    ins : inner own op ≡ true
    ins = and_l (inner own op) _ mine

    ended : (f : EngineFault) → f ≡ Room → ◌≡◌ {A = View R.Shape × Result (Unit {0}) EngineFault} (e, Err f) (e', r) → Fit r × (e'.vars ≡ e.vars) × ((x : ℕ) → own x ≡ false → e'.regs x ≡ e.regs x)
    ended f w k =
        let p : e ≡ e' = ap (λ (t : View R.Shape × Result (Unit {0}) EngineFault). t.0) k in
        let q : Err f ≡ r = ap (λ (t : View R.Shape × Result (Unit {0}) EngineFault). t.1) k in
        (subst Fit q w, ap (λ (v : View R.Shape). v.vars) (sym p), λ x o. ap (λ (v : View R.Shape). v.regs x) (sym p))

    go : (ran R (moved R op e) ops ≡ (e', r) → tidy_all own e.vars ops ≡ true → Fit r × (e'.vars ≡ e.vars) × ((x : ℕ) → own x ≡ false → e'.regs x ≡ after op e.regs x)) → (a b c : Bool) → a ≡ true → b ≡ true → follow {A = Unit {0}} (cond a (cond b (cond c (Err Room) (Ok tt)) (Err Variable)) (Err Register)) e (ran R (moved R op e) ops) ≡ (e', r) → Fit r × (e'.vars ≡ e.vars) × ((x : ℕ) → own x ≡ false → e'.regs x ≡ e.regs x)
    go l true true true p q k = ended Room refl k
    go l true true false p q k = let i = l k theirs in (i.0, i.1, λ x o. i.2 x o ∙ stays own op e.regs x ins o)
    go l true false c p q k = absurd (cc)
    go l false b c p q k = absurd (cc)
