-- The calls that fix one variable.
use Rattle.std.proofs.Common.{◌≡◌, ℕ, zero, suc, ◌+◌, ◌-◌, ◌/◌, ◌%◌, ◌^◌, ◌≤◌, Bool, true, false, cond, List, [], ◌∷◌, get_or, replicate, Ok, Err, Option, Result, sym, refl, ap, ◌∙◌, subst, arith, eq-eqb, ne_eqb}
use native.Mathlib.Nat.{zero-div}
use Rattle.engine.specs.declared.fault.EngineFault.{EngineFault}
use Rattle.engine.specs.Ops.{Op, Bits, held, bit_at, put}
use Rattle.engine.specs.Does.{Does, Rooms, View, Tests, Says}
use Rattle.engine.specs.Rows.{Ran}
use Rattle.engine.proofs.Rows.{row, next, retell, ran_regs}
use Rattle.steps.specs.Works.{Swept}
use Rattle.steps.proofs.Rows.{test_says}
use Rattle.search.specs.declared.places.Places.{Places}
use Rattle.search.specs.Assigned.{Assigned}
use Rattle.search.specs.Steps.{places, pick_steps, take_steps, differ_steps}
use Rattle.search.specs.Seeks.{Chooses, Trail, Void, Seeks, Finds}

pub same_says : (x y : Bool) (P : Type 0) → Says x P → Says y P → x ≡ y
same_says true true P s t = refl
same_says true false P s t = sym (t.1 (s.0 refl))
same_says false true P s t = s.1 (t.0 refl)
same_says false false P s t = refl

-- what the test says of the differing frames
void_says : {R : Rooms} (w : Places) {v : ℕ} {e e₁ e₂ : View R.Shape} {u : Unit {0}} {x : Bool} → Does R (Op.fix w.half w.differing v false) tt e e₁ (Ok u) → Tests R w.half e₁ e₂ (Ok x) → Says x (Void w e v)
void_says {R = R} w {v = v} {e = e} {x = x} d t =
    let here : put e.regs w.half (λ s. e.regs w.differing (held s v false)) w.half ≡ (λ s. e.regs w.differing (held s v false)) = rw (eq-eqb w.half w.half refl) refl in
    subst (λ (f : Bits → Bool). Says x ((s : Bits) → f s ≡ false)) here (subst (λ (m : View R.Shape). Says x ((s : Bits) → m.regs w.half s ≡ false)) d.left (test_says t))

-- the calls after the test, and those of them before the half is taken
abbrev arm_steps : Places → ℕ → Bool → List Op → List Op
arm_steps w v x rest = cond x (Op.clear w.half ∷ (Op.fix w.half w.differing v true ∷ take_steps w rest)) (take_steps w rest)

abbrev pub retry_steps : Places → ℕ → Bool → List Op → List Op
retry_steps w v x rest = cond x (Op.clear w.half ∷ (Op.fix w.half w.differing v true ∷ rest)) rest

pub retaken : {A : Type 0} {R : Rooms} {e e₁ e' : View R.Shape} {u : Unit {0}} {r : Result A EngineFault} (w : Places) (v : ℕ) (x : Bool) → Ran R (retry_steps w v x) e e₁ (Ok u) → Ran R (take_steps w) e₁ e' r → Ran R (arm_steps w v x) e e' r
retaken w v true p q = next p q
retaken w v false p q = next p q

pub chosen : {R : Rooms} (w : Places) {v : ℕ} {e e₁ e₂ e' : View R.Shape} {u : Unit {0}} {x : Bool} {r : Result Bool EngineFault} → Does R (Op.fix w.half w.differing v false) tt e e₁ (Ok u) → Tests R w.half e₁ e₂ (Ok x) → Ran R (arm_steps w v x) e₂ e' r → ((y : Bool) → r ≡ Ok y → x ≡ y) → Chooses R w v e e' r
chosen {R = R} w {v = v} {e = e} {e' = e'} {x = x} {r = r} d t a h =
    let says = void_says w d t in
    let whole : Ran R (pick_steps w v x) e e' r = next (row d) (next (row t.does) a) in
    record {
      row = λ y s. subst (λ (z : Bool). Ran R (pick_steps w v z) e e' r) (same_says x y (Void w e v) says s) whole;
      some = (x, whole);
      right = λ y k. subst (λ (z : Bool). Says z (Void w e v)) (h y k) says;
    }

-- bits that agree up to k do as well
pub trail_ext : (R : Rooms) (w : Places) (s t : Bits) (k : ℕ) (e e' : View R.Shape) → ((v : ℕ) → 1 ≤ v → v ≤ k → s v ≡ t v) → Trail R w s k e e' → Trail R w t k e e'
trail_ext R w s t zero e e' h p = p
trail_ext R w s t (suc k) e e' h (m, p, c) =
    (m, trail_ext R w s t k e m (λ v a b. h v a (omega arith)) p, subst (λ (x : Bool). Chooses R w (suc k) m e' (Ok x)) (h (suc k) (omega arith) (omega arith)) c)

assigned_off : (s t : List ℕ) (k : ℕ) (x : Bool) → Assigned s k x t → (v : ℕ) → 1 ≤ v → v ≤ 144 → (v ≡ k → ⊥) → bit_at t v ≡ bit_at s v
assigned_off s t k x y v a b n = y v a b ∙ rw (ne_eqb v k n) refl

-- one variable more
pub trail_more : (R : Rooms) (w : Places) (s t : List ℕ) (v k : ℕ) (e m e' : View R.Shape) (x : Bool) → k ≡ v → 1 ≤ v → v ≤ 144 → ((u : ℕ) → v ≤ u → u ≤ 144 → bit_at s u ≡ false) → Trail R w (bit_at s) (v - 1) e m → Assigned s v x t → Chooses R w v m e' (Ok x) → ((u : ℕ) → v + 1 ≤ u → u ≤ 144 → bit_at t u ≡ false) × Trail R w (bit_at t) k e e'
trail_more R w s t zero k e m e' x here from to low p y c = absurd (omega arith)
trail_more R w s t (suc j) k e m e' x here from to low p y c =
    let before : suc j - 1 ≡ j = omega arith in
    let mine : bit_at t (suc j) ≡ x = y (suc j) (omega arith) (omega arith) ∙ rw (eq-eqb (suc j) (suc j) refl) refl in (
      λ u a b. assigned_off s t (suc j) x y u (omega arith) b (λ q. omega arith) ∙ low u (omega arith) b,
      rw here (m, trail_ext R w (bit_at s) (bit_at t) j e m (λ v a b. sym (assigned_off s t (suc j) x y v a (omega arith) (λ q. omega arith))) (rw before at p), subst (λ (y : Bool). Chooses R w (suc j) m e' (Ok y)) (sym mine) c),
    )

zeros_at : (n i : ℕ) → get_or {A = ℕ} (replicate n 0) i 0 ≡ 0
zeros_at zero i = refl
zeros_at (suc n) zero = refl
zeros_at (suc n) (suc i) = zeros_at n i

-- no bit is set at first
pub zero_bits : (u : ℕ) → bit_at (replicate 18 0) u ≡ false
zero_bits u = rw (zeros_at 18 ((u - 1) / 8), zero-div (2 ^ (7 - (u - 1) % 8))) refl

pub clear_made : {R : Rooms} {d : ℕ} {e e' : View R.Shape} {u : Unit {0}} → Does R (Op.clear d) tt e e' (Ok u) → Ran {A = Unit {0}} R (λ rest. Op.clear d ∷ rest) e e' (Ok tt)
clear_made d = retell (row d) tt

-- the calls before the hunt keep the number of variables
pub vars_kept : {R : Rooms} {a : ℕ} {e mid at : View R.Shape} {u : Unit {0}} {x : Bool} → Ran R (differ_steps places 0 1) e mid (Ok u) → Tests R a mid at (Ok x) → at.vars ≡ e.vars
vars_kept {R = R} {e = e} {mid = mid} p t = ap (λ (v : View R.Shape). v.vars) t.does.left ∙ (ran_regs R e mid (differ_steps places 0 1 []) (p.goes [])).0

-- a search that was swept after a refusal
pub finds : (R : Rooms) (n : ℕ) (e at e' : View R.Shape) (r : Result (Option (List ℕ)) EngineFault) → Seeks R n e at r → Swept R at e' r → Finds R n e e' r
finds R n e at e' (Ok x) p q = subst (λ (v : View R.Shape). Seeks R n e v (Ok x)) (sym q) p
finds R n e at e' (Err f) p q = (at, p, q)
