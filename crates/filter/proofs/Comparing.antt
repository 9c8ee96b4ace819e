-- Turns of a compare.
use Rattle.std.proofs.Common.{◌≡◌, ℕ, List, [], ◌∷◌, Some, None, Ok, Err, Option, sym, refl, ap, ◌∙◌, subst, inl, inr, ⊎_elim, arith, eq-eqb}
use Rattle.engine.specs.declared.fault.EngineFault.{EngineFault}
use Rattle.engine.specs.Ops.{Op, bit_at}
use Rattle.engine.specs.Does.{Rooms, View}
use Rattle.engine.specs.Rows.{ran}
use Rattle.kind.specs.Kinds.{Reading, over}
use Rattle.kind.specs.Rules.{judged}
use Rattle.search.specs.Steps.{places, differ_steps, alike_steps, least_steps}
use Rattle.search.specs.Least.{Least}
use Rattle.search.specs.Seeks.{Finds}
use Rattle.search.proofs.Seeking.{least_unique}
use Rattle.search.proofs.Deciding.{alike_or_least}
use Rattle.search.proofs.Found.{hunt_ext, none_ran, none_alike, none_regs, some_ran, some_regs, some_least, seek_alike, seek_least, err_regs}
use Rattle.filter.specs.declared.answer.Reply.TheVariants.{Alike, Differs}
use Rattle.filter.specs.declared.fault.FilterFault.TheVariants as fault
use Rattle.filter.specs.Books.{Books}
use Rattle.filter.specs.Calls.{comparing, fitting_bits, refusal}
use Rattle.filter.specs.Turns.{Sound, Turn, Steps, settled}
use Rattle.filter.proofs.Turning.{settle_err, fits, refused_after}

-- a compare has its steps
compare_steps : (k : Reading) (b : Books) (place : List ℕ) → (ops : List Op) × Steps k b (comparing place) ops
compare_steps k b place = elim (alike_or_least k.bits b.live b.draft) as (λ _. (ops : List Op) × Steps k b (comparing place) ops) [ inl h ↦ (alike_steps, inl (h, refl)) | inr l ↦ (least_steps k.bits l.0, inr (l.0, l.1, refl)) ]

module _ (R : Rooms) (k : Reading) (place : List ℕ) (n : ℕ) (e e' : View R.Shape) (b : Books) (fit : Ok n ≡ fitting_bits k e.vars) where
  p : k.bits ≡ e.vars
  p = (fits k n e.vars fit).1

  no_refusal : refusal k e.vars b (comparing place) ≡ None
  no_refusal = rw (eq-eqb k.bits e.vars p) refl

  -- over the engine's number of variables, and of what was found under another name
  pub compare_alike : (o : Option (List ℕ)) → o ≡ None → Finds R e.vars e e' (Ok o) → Sound k e b → Turn R k (comparing place) e b e' b (Ok Alike)
  compare_alike o q h s = go (subst (λ (m : ℕ). Finds R m e e' (Ok None)) (sym p) (rw q at h))
    where
      go : Finds R k.bits e e' (Ok None) → Turn R k (comparing place) e b e' b (Ok Alike)
      go h =
          let w = none_regs R k.bits b.live b.draft e s e' h in
          let same = none_alike R k.bits b.live b.draft e s e' h in
          record {
            same = w.0;
            right = rw no_refusal (inl record { same = same; answer = refl });
            drew = refl;
            sound = w.1;
            stays = λ f z. cc;
            went = rw no_refusal record {
              known = compare_steps k b place;
              ends = λ ops t. ⊎_elim (λ l. rw l.1 (ap (settled R) (none_ran R k.bits b.live b.draft e s e' h))) (λ l. absurd (l.1.differ (same l.0))) t;
            };
          }

  pub compare_differ : (o : Option (List ℕ)) (bits place' : List ℕ) → o ≡ Some bits → Finds R e.vars e e' (Ok o) → place' ≡ over (k.backs (bit_at bits)) place → Sound k e b → Turn R k (comparing place) e b e' b (Ok (Differs place'))
  compare_differ o bits place' q h written s = go (subst (λ (m : ℕ). Finds R m e e' (Ok (Some bits))) (sym p) (rw q at h))
    where
      go : Finds R k.bits e e' (Ok (Some bits)) → Turn R k (comparing place) e b e' b (Ok (Differs place'))
      go h =
          let w = some_regs R k.bits b.live b.draft e s e' bits h in
          record {
            same = w.0;
            right = rw no_refusal (inr (inl record { bits = bit_at bits; least = low; answer = rw written refl }));
            drew = refl;
            sound = w.1;
            stays = λ f z. cc;
            went = rw no_refusal record { known = compare_steps k b place; ends = went };
          }
        where
          low : Least k.bits (judged k.bits b.live) (judged k.bits b.draft) (bit_at bits)
          low = some_least R k.bits b.live b.draft e s e' bits h

          went : (ops : List Op) → Steps k b (comparing place) ops → settled R (ran R e ops) ≡ (e', Ok tt)
          went ops (inl (q, o)) = absurd (low.differ (q (bit_at bits)))
          went ops (inr (t, l, o)) =
              let same : least_steps k.bits t ≡ least_steps k.bits (bit_at bits) = ap (λ (x : List Op). differ_steps places 0 1 (Op.empty 9 ∷ x)) (hunt_ext t (bit_at bits) k.bits (Op.clear 9 ∷ []) (least_unique k.bits _ _ t (bit_at bits) l low k.bits (omega arith))) in
              rw (o ∙ same) (ap (settled R) (some_ran R k.bits b.live b.draft e s e' bits h))

  pub compare_refused : (f : EngineFault) → Finds R e.vars e e' (Err f) → Sound k e b → Turn R k (comparing place) e b e' b (Err (fault.Engine f))
  compare_refused f h s = go (subst (λ (m : ℕ). Finds R m e e' (Err f)) (sym p) h)
    where
      go : Finds R k.bits e e' (Err f) → Turn R k (comparing place) e b e' b (Err (fault.Engine f))
      go (at, seeks, swept) =
          let w = err_regs R k.bits b.live b.draft e s e' f (sym p) (at, seeks, swept) in
          refused_after R k (comparing place) e e' b f no_refusal w.1 (inr (inr (rw w.0 refl))) s w.2 record { known = compare_steps k b place; ends = went }
        where
          went : (ops : List Op) → Steps k b (comparing place) ops → settled R (ran R e ops) ≡ (e', Err f)
          went ops (inl (q, o)) = rw o (settle_err R e at e' alike_steps f (seek_alike R k.bits b.live b.draft e s at f q seeks) (swept.goes []))
          went ops (inr (t, l, o)) = rw o (settle_err R e at e' (least_steps k.bits t) f (seek_least R k.bits b.live b.draft e s at f t l seeks) (swept.goes []))
