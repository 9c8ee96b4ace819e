-- The rows of an add, put together.
use Rattle.std.proofs.Common.{◌≡◌, ℕ, zero, suc, ◌+◌, ◌-◌, ◌<◌, Bool, true, false, List, [], ◌∷◌, length, get_or, drop, Ok, Err, Result, sym, refl, ap, ◌∙◌, add-one, arith, drop-cons}
use Rattle.engine.specs.declared.fault.EngineFault.{EngineFault}
use Rattle.engine.specs.Ops.{Op, Bits, regs_in}
use Rattle.engine.specs.Does.{Rooms, View, Says, Tests}
use Rattle.engine.specs.Rows.{Ran}
use Rattle.engine.proofs.Rows.{row, next, stop, retell, told_value}
use Rattle.kind.specs.declared.rule.Rule.{Rule}
use Rattle.kind.specs.Rules.{blocks}
use Rattle.steps.specs.declared.scratch.Scratch.{Scratch}
use Rattle.steps.specs.Steps.{scratch, bit_steps, bits_steps, join_steps, keep_steps, find_steps, work_steps, rebuild_steps}
use Rattle.steps.specs.Works.{Works}

pub bits_down : (w : Scratch) (r : Rule) (v : ℕ) (rest : List Op) → 0 < v → bits_steps w r v rest ≡ bit_steps w r v (bits_steps w r (v - 1) rest)
bits_down w r zero rest h = absurd (omega arith)
bits_down w r (suc v) rest h = let e : v ≡ suc v - 1 = omega arith in ap (λ k. bit_steps w r (suc v) (bits_steps w r k rest)) e

pub rebuild_drop : (rules : List Rule) (i n : ℕ) (d : Rule) (rest : List Op) → i < length rules → rebuild_steps (drop i rules) n rest ≡ find_steps scratch 10 (get_or rules i d) n (keep_steps scratch 10 11 (get_or rules i d) (rebuild_steps (drop (i + 1) rules) n rest))
rebuild_drop rules i n d rest h = ap (λ (rs : List Rule). rebuild_steps rs n rest) more
  where
    more : drop i rules ≡ get_or rules i d ∷ drop (i + 1) rules
    more = drop-cons rules i d h ∙ rw add-one refl

pub keep_block : {A : Type 0} {R : Rooms} {e e' : View R.Shape} {x : Result A EngineFault} (w : Scratch) (m b : ℕ) (r : Rule) → blocks r.action ≡ true → Ran R (λ rest. join_steps w w.matched m w.rule (join_steps w w.blocked b w.fresh rest)) e e' x → Ran R (keep_steps w m b r) e e' x
keep_block w m b r h p = record { goes = λ rest. rw h (p.goes rest) }

pub keep_pass : {A : Type 0} {R : Rooms} {e e' : View R.Shape} {x : Result A EngineFault} (w : Scratch) (m b : ℕ) (r : Rule) → blocks r.action ≡ false → Ran R (λ rest. Op.clear w.fresh ∷ join_steps w w.matched m w.rule rest) e e' x → Ran R (keep_steps w m b r) e e' x
keep_pass w m b r h p = record { goes = λ rest. rw h (p.goes rest) }

-- what an answered test says of the register
pub test_says : {R : Rooms} {a : ℕ} {e e' : View R.Shape} {x : Bool} → Tests R a e e' (Ok x) → Says x ((s : Bits) → e.regs a s ≡ false)
test_says {R = R} {a = a} {e = e} {x = x} t = let k : t.yes_no ≡ x = sym (told_value x t.yes_no (regs_in (Op.empty a)) true (R.full e.shape (Op.empty a)) t.does.told) in rw k at t.says

-- an add whose test is answered
pub tested : {R : Rooms} {w : Scratch} {rule : Rule} {n : ℕ} {e mid at e' : View R.Shape} {x : Bool} {u v : Unit {0}} → Ran R (find_steps w 2 rule n) e mid (Ok u) → Tests R w.fresh mid at (Ok x) → Ran R (keep_steps w 2 1 rule) at e' (Ok v) → Works R w rule n e e' (Ok x)
tested {mid = mid} {x = x} p t q = record {
  row = retell (next p (next (row t.does) q)) x;
  idle = λ y h. (mid, p.goes [], let k : x ≡ y = cc in rw k at (test_says t));
}

-- an add that is refused, before its test is answered or after it
pub refused : {A : Type 0} {R : Rooms} {w : Scratch} {rule : Rule} {n : ℕ} {e e' : View R.Shape} {f : EngineFault} → Ran {A = A} R (work_steps w rule n) e e' (Err f) → Works R w rule n e e' (Err f)
refused {f = f} p = record {
  row = stop p (λ rest. rest);
  idle = λ y h. cc;
}
