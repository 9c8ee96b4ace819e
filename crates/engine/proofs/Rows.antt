-- Laws of rows of engine calls.
use Rattle.std.proofs.Common.{◌≡◌, Bool, true, false, cond, ◌&&◌, List, [], ◌∷◌, Ok, Err, Result, sym, refl, ap, ◌∙◌}
use Rattle.engine.specs.declared.fault.EngineFault.{EngineFault}
use Rattle.engine.specs.declared.fault.EngineFault.TheVariants.{Register, Variable, Room}
use Rattle.engine.specs.Ops.{Op, may_lack, regs_in, var_in, after, Regs}
use Rattle.engine.specs.Does.{Does, Rooms, View, moved, answer}
use Rattle.engine.specs.Rows.{Ran, ran, follow}

-- one call is a row of one
pub row : {A : Type 0} {x : A} {R : Rooms} {op : Op} {e e' : View R.Shape} {r : Result A EngineFault} → Does R op x e e' r → Ran R (λ rest. op ∷ rest) e e' r
row {x = x} {R = R} {op = op} {e = e} {e' = e'} {r = r} d = record { goes = λ rest. go rest (regs_in op) (var_in e.vars op) (may_lack op && R.full e.shape op) d.told }
  where
    go : (rest : List Op) (a b c : Bool) → r ≡ cond a (cond b (cond c (Err Room) (Ok x)) (Err Variable)) (Err Register)
        → follow {A = Unit {0}} (cond a (cond b (cond c (Err Room) (Ok tt)) (Err Variable)) (Err Register)) e (ran R (moved R op e) rest) ≡ follow r e' (ran R e' rest)
    go rest true true true p = rw (d.left, p) refl
    go rest true true false p = rw (d.left, p) refl
    go rest true false c p = rw (d.left, p) refl
    go rest false b c p = rw (d.left, p) refl

-- one row of calls after another
pub next : {A B : Type 0} {x : A} {R : Rooms} {f h : List Op → List Op} {e e₁ e' : View R.Shape} {r : Result B EngineFault} → Ran R f e e₁ (Ok x) → Ran R h e₁ e' r → Ran R (λ rest. f (h rest)) e e' r
next {h = h} p q = record { goes = λ rest. p.goes (h rest) ∙ q.goes rest }

-- a row of calls that was refused, before any other calls
pub stop : {A B : Type 0} {x : EngineFault} {R : Rooms} {f : List Op → List Op} {e e' : View R.Shape} → Ran {A = A} R f e e' (Err x) → (h : List Op → List Op) → Ran {A = B} R (λ rest. f (h rest)) e e' (Err x)
stop p h = record { goes = λ rest. p.goes (h rest) }

-- a row that is answered, whatever value it is answered with
pub retell : {A B : Type 0} {x : A} {R : Rooms} {f : List Op → List Op} {e e' : View R.Shape} → Ran R f e e' (Ok x) → (y : B) → Ran R f e e' (Ok y)
retell p y = record { goes = λ rest. p.goes rest }

-- an answered call gives the value that it should
pub told_value : {A : Type 0} (x z : A) (a b c : Bool) → ◌≡◌ {A = Result A EngineFault} (Ok x) (cond a (cond b (cond c (Err Room) (Ok z)) (Err Variable)) (Err Register)) → x ≡ z
told_value x z true true true e = absurd (cc)
told_value x z true true false e = cc
told_value x z true false c e = absurd (cc)
told_value x z false b c e = absurd (cc)

-- no row ends both ways
pub clash : {V : Type 0} {x y : V} {f : EngineFault} → ◌≡◌ {A = V × Result (Unit {0}) EngineFault} (x, Err f) (y, Ok tt) → ⊥
clash e = cc (ap (λ (t : _ × Result (Unit {0}) EngineFault). t.1) e)

-- the registers after calls that are all answered
abbrev pub regs_after : List Op → Regs → Regs
regs_after [] m = m
regs_after (op ∷ ops) m = regs_after ops (after op m)

pub ran_regs : (R : Rooms) (e e' : View R.Shape) (ops : List Op) → ran R e ops ≡ (e', Ok tt) → (e'.vars ≡ e.vars) × (e'.regs ≡ regs_after ops e.regs)
ran_regs R e e' [] h = let p : e ≡ e' = ap (λ (t : View R.Shape × Result (Unit {0}) EngineFault). t.0) h in (ap (λ (v : View R.Shape). v.vars) (sym p), ap (λ (v : View R.Shape). v.regs) (sym p))
ran_regs R e e' (op ∷ ops) h = ran_regs R (moved R op e) e' ops (go (answer {A = Unit {0}} tt e.vars (R.full e.shape op) op) h)
  where
    go : (r : Result (Unit {0}) EngineFault) → follow r e (ran R (moved R op e) ops) ≡ (e', Ok tt) → ran R (moved R op e) ops ≡ (e', Ok tt)
    go (Ok x) k = k
    go (Err f) k = absurd (clash k)
