-- Turns of a withdraw.
use Rattle.std.proofs.Common.{◌≡◌, ℕ, ◌-◌, ◌≤◌, List, [], length, None, Ok, Err, sym, refl, ap, ◌∙◌, inl, inr, eq-eqb, le-leb}
use Rattle.std.specs.List.{remove}
use Rattle.engine.specs.declared.fault.EngineFault.{EngineFault}
use Rattle.engine.specs.Does.{Rooms, View}
use Rattle.kind.specs.declared.rule.Rule.{Rule}
use Rattle.kind.specs.Kinds.{Reading}
use Rattle.steps.specs.Steps.{withdraw_steps, replace_steps}
use Rattle.steps.specs.Works.{Rebuilds}
use Rattle.steps.proofs.Rebuilding.{rebuilds_ok, rebuilds_err}
use Rattle.filter.specs.declared.answer.Reply.TheVariants.{Withdrawn}
use Rattle.filter.specs.declared.fault.FilterFault.TheVariants as fault
use Rattle.filter.specs.Books.{Books}
use Rattle.filter.specs.Calls.{withdrawing, fitting_bits, refusal}
use Rattle.filter.specs.Turns.{Sound, Turn, settled}
use Rattle.filter.proofs.Turning.{settle_err, fits, refused_after}

module _ (R : Rooms) (k : Reading) (i n : ℕ) (e e' : View R.Shape) (b : Books) (fit : Ok n ≡ fitting_bits k e.vars) (from : 1 ≤ i) (to : i ≤ length b.draft) where
  p : (n ≡ k.bits) × (k.bits ≡ e.vars)
  p = fits k n e.vars fit

  no_refusal : refusal k e.vars b (withdrawing i) ≡ None
  no_refusal = rw (eq-eqb k.bits e.vars p.1, le-leb 1 i from, le-leb i (length b.draft) to) refl

  abbrev rest_of : List Rule
  rest_of = remove b.draft (i - 1)

  pub withdraw_done : (x : Unit {0}) (b' : Books) → Rebuilds R rest_of n e e' (Ok x) → b'.live ≡ b.live → b'.draft ≡ rest_of → Sound k e b → Turn R k (withdrawing i) e b e' b' (Ok Withdrawn)
  withdraw_done x b' h l d s =
      let w = rebuilds_ok R rest_of k.bits b.live b.draft e e' s x (rw p.0 at h) in
      record {
        same = w.1;
        right = rw no_refusal (inl refl);
        drew = λ j. record { live = l j; draft = d j };
        sound = w.2 ∙ rw (l, d) refl;
        stays = λ f z. cc;
        went = rw no_refusal record { known = (withdraw_steps rest_of k.bits, refl); ends = λ ops o. rw o (ap (settled R) w.0) };
      }

  pub withdraw_refused : (f : EngineFault) → Rebuilds R rest_of n e e' (Err f) → Sound k e b → Turn R k (withdrawing i) e b e' b (Err (fault.Engine f))
  withdraw_refused f h s = go (rw p.0 at h)
    where
      go : Rebuilds R rest_of k.bits e e' (Err f) → Turn R k (withdrawing i) e b e' b (Err (fault.Engine f))
      go (at, built, swept) =
          let t = rebuilds_err R rest_of k.bits b.live b.draft e e' s f (sym p.1) (at, built, swept) in
          refused_after R k (withdrawing i) e e' b f no_refusal t.1 (inr (rw t.0 refl)) s t.2
          record { known = (withdraw_steps rest_of k.bits, refl); ends = λ ops o. rw o (settle_err R e at e' (withdraw_steps rest_of k.bits) f (built.goes (replace_steps [])) (swept.goes [])) }
