-- Turns of a filter, from what its engine did.
use Rattle.std.proofs.Common.{◌≡◌, ℕ, ◌+◌, ◌<◌, Bool, cond, List, [], ◌∷◌, ◌++◌, length, None, Ok, Err, Result, sym, refl, ap, ◌∙◌, inl, inr, arith, lt-ltb, eq-eqb}
use Rattle.std.proofs.lemmas.Bool.Decides.{nat_tests}
use Rattle.engine.specs.declared.fault.EngineFault.{EngineFault}
use Rattle.engine.specs.Ops.{Op, within, bit_at}
use Rattle.engine.specs.Does.{Rooms, View, Does}
use Rattle.engine.specs.Rows.{ran}
use Rattle.kind.specs.declared.rule.Rule.{Rule}
use Rattle.kind.specs.declared.rule.Action.{Action}
use Rattle.kind.specs.declared.rule.Action.TheVariants.{Block, Pass}
use Rattle.kind.specs.Kinds.{Reading}
use Rattle.steps.specs.Steps.{add_steps, store_steps, sweep_steps}
use Rattle.steps.specs.Works.{Admits}
use Rattle.steps.proofs.Adding.{admits_ok, admits_err}
use Rattle.filter.specs.declared.answer.Added.{Added as Done}
use Rattle.filter.specs.declared.answer.Reply.TheVariants.{Added, Verdict}
use Rattle.filter.specs.declared.fault.FilterFault.TheVariants as fault
use Rattle.filter.specs.Books.{Books}
use Rattle.filter.specs.Calls.{Asked, adding, judging, fitting_bits, refusal, By}
use Rattle.filter.specs.Turns.{Sound, Turn, Made, Steps, settled}

-- a row that is refused, and the clearing after it
pub settle_err : (R : Rooms) (e at e' : View R.Shape) (ops : List Op) (f : EngineFault) → ran R e ops ≡ (at, Err f) → ran R at (sweep_steps []) ≡ (e', Ok tt) → settled R (ran R e ops) ≡ (e', Err f)
settle_err R e at e' ops f h k = rw h (ap (λ (t : View R.Shape × Result (Unit {0}) EngineFault). (t.0, Err f)) k)

-- a number of bits that fits is the kind's, and the engine's number of variables
pub fits : (k : Reading) (n m : ℕ) → Ok n ≡ fitting_bits k m → (n ≡ k.bits) × (k.bits ≡ m)
fits k n m e = grind (arith, nat_tests)

-- a call whose engine calls were refused for want of room
pub refused_after : (R : Rooms) (k : Reading) (c : Asked) (e e' : View R.Shape) (b : Books) (f : EngineFault) → refusal k e.vars b c ≡ None → e'.vars ≡ e.vars → By None k b c (Err (fault.Engine f)) → Sound k e b → Sound k e' b → Made R k b c e e' (Err (fault.Engine f)) → Turn R k c e b e' b (Err (fault.Engine f))
refused_after R k c e e' b f none same fair s s' made = record {
  same = same;
  right = rw none fair;
  drew = refl;
  sound = s';
  stays = λ g h. s' ∙ sym s;
  went = rw none made;
}

-- an add that comes as far as the engine is refused for nothing else
add_fits : (k : Reading) (n : ℕ) (b : Books) (line : List ℕ) (r : Rule) → k.bits ≡ n → k.reads line ≡ Ok r → length b.draft < 64 → refusal k n b (adding line) ≡ None
add_fits k n b line r p q h = rw (eq-eqb k.bits n p, q, lt-ltb (length b.draft) 64 h) refl

add_steps_are : (k : Reading) (b : Books) (line : List ℕ) (r : Rule) → k.reads line ≡ Ok r → (ops : List Op) → Steps k b (adding line) ops → ops ≡ add_steps r k.bits
add_steps_are k b line r q ops (r', q', o) = let same : r' ≡ r = cc in rw (o, same) refl

pub add_refused : (R : Rooms) (k : Reading) (line : List ℕ) (r : Rule) (n : ℕ) (e e' : View R.Shape) (b : Books) (f : EngineFault) → Ok n ≡ fitting_bits k e.vars → k.reads line ≡ Ok r → length b.draft < 64 → Admits R r n e e' (Err f) → Sound k e b → Turn R k (adding line) e b e' b (Err (fault.Engine f))
add_refused R k line r n e e' b f fit q h a s = go (rw p.0 at a)
  where
    p : (n ≡ k.bits) × (k.bits ≡ e.vars)
    p = fits k n e.vars fit

    go : Admits R r k.bits e e' (Err f) → Turn R k (adding line) e b e' b (Err (fault.Engine f))
    go (at, works, swept) =
        let t = admits_err R r k.bits b.live b.draft e e' s f (sym p.1) (at, works, swept) in
        refused_after R k (adding line) e e' b f (add_fits k e.vars b line r p.1 q h) t.1 (inr (rw t.0 refl)) s t.2
        record { known = (add_steps r k.bits, (r, q, refl)); ends = λ ops o. rw (add_steps_are k b line r q ops o) (settle_err R e at e' (add_steps r k.bits) f (works.row.goes (store_steps r [])) (swept.goes [])) }

pub add_kept : (R : Rooms) (k : Reading) (line : List ℕ) (r : Rule) (n : ℕ) (e e' : View R.Shape) (b b' : Books) (x : Done) → Ok n ≡ fitting_bits k e.vars → k.reads line ≡ Ok r → length b.draft < 64 → Admits R r n e e' (Ok x.idle) → x.number ≡ length b.draft + 1 → b'.live ≡ b.live → b'.draft ≡ b.draft ++ (r ∷ []) → Sound k e b → Turn R k (adding line) e b e' b' (Ok (Added x))
add_kept R k line r n e e' b b' x fit q h a c l d s = go (rw p.0 at a)
  where
    p : (n ≡ k.bits) × (k.bits ≡ e.vars)
    p = fits k n e.vars fit

    go : Admits R r k.bits e e' (Ok x.idle) → Turn R k (adding line) e b e' b' (Ok (Added x))
    go (at, works, stored) =
        let t = admits_ok R r k.bits b.live b.draft e e' s x.idle (at, works, stored) in
        let none = add_fits k e.vars b line r p.1 q h in
        record {
          same = t.0;
          right = rw none (inl record { rule = r; read = q; told = x; answer = refl; number = c; idle = t.2 });
          drew = rw q (λ j. record { live = l j; draft = d j });
          sound = t.1 ∙ rw (l, d) refl;
          stays = λ f z. cc;
          went = rw none record { known = (add_steps r k.bits, (r, q, refl)); ends = λ ops o. rw (add_steps_are k b line r q ops o) (ap (settled R) (works.row.goes (store_steps r []) ∙ stored.goes [])) };
        }

pub judge_done : (R : Rooms) (k : Reading) (frame s : List ℕ) (n : ℕ) (e e' : View R.Shape) (b : Books) (x : Bool) (a : Action) → Ok n ≡ fitting_bits k e.vars → k.turns frame ≡ Ok s → Does R (Op.evaluate 0 (within e.vars (bit_at s))) (e.regs 0 (bit_at s)) e e' (Ok x) → a ≡ cond x Block Pass → Sound k e b → Turn R k (judging frame) e b e' b (Ok (Verdict a))
judge_done R k frame s n e e' b x a fit q d named sound =
    let p : k.bits ≡ e.vars = (fits k n e.vars fit).1 in
    let none : refusal k e.vars b (judging frame) ≡ None = rw (eq-eqb k.bits e.vars p, q) refl in
    let told : x ≡ e.regs 0 (bit_at s) = cc (d.told) in
    let regs : e'.regs ≡ e.regs = ap (λ (v : View R.Shape). v.regs) d.left in
    record {
      same = ap (λ (v : View R.Shape). v.vars) d.left;
      right = rw none record { bits = s; turned = q; answer = rw (named, told, sound) refl };
      drew = refl;
      sound = regs ∙ sound;
      stays = λ f z. regs;
      went = rw none record { known = (Op.evaluate 0 (within k.bits (bit_at s)) ∷ [], (s, q, refl)); ends = went p };
    }
  where
    went : k.bits ≡ e.vars → (ops : List Op) → Steps k b (judging frame) ops → settled R (ran R e ops) ≡ (e', Ok tt)
    went p ops (t, turned, o) = let same : t ≡ s = cc in rw (o, same, p) (ap (λ (v : View R.Shape). (v, Ok tt)) (sym d.left))
