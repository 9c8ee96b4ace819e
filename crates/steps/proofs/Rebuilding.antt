-- The rows of a withdraw, put together, and what they come to.
use Rattle.std.proofs.Common.{◌≡◌, ℕ, Bool, true, false, cond, not, ◌&&◌, List, [], ◌∷◌, ◌++◌, Ok, Err, sym, refl, ap, ◌∙◌, arith}
use mathlib.Core.Path.{fun_ext}
use Rattle.std.proofs.lemmas.Bool.Decides.{nat_tests}
use Rattle.std.proofs.lemmas.List.{append_assoc, append-nil}
use Rattle.engine.specs.declared.fault.EngineFault.{EngineFault}
use Rattle.engine.specs.declared.fault.EngineFault.TheVariants.{Room}
use Rattle.engine.specs.Ops.{Op, Regs, put}
use Rattle.engine.specs.Does.{Rooms, View}
use Rattle.engine.specs.Rows.{ran}
use Rattle.engine.proofs.Rows.{regs_after, ran_regs}
use Rattle.engine.proofs.Tidy.{tidy_all}
use Rattle.engine.proofs.Puts.{put_self}
use Rattle.kind.specs.declared.rule.Rule.{Rule}
use Rattle.kind.specs.Rules.{matches, matched, judged, blocks}
use Rattle.steps.specs.Steps.{scratch, find_steps, keep_steps, join_steps, rebuild_steps, replace_steps, withdraw_steps}
use Rattle.steps.specs.Works.{Rebuilds}
use Rattle.steps.specs.Meaning.{meaning}
use Rattle.steps.proofs.Registers.{same_regs}
use Rattle.steps.proofs.Adding.{own, rule_regs, matched_push, block_push, pass_push, tidy_bits, swept_back}

-- registers 10 and 11 mean these rules, and the others the books
abbrev partly : ℕ → List Rule → List Rule → List Rule → Regs
partly n live draft rs = put (put (meaning n live draft) 11 (judged n rs)) 10 (matched n rs)

one_more : (r : Rule) (n : ℕ) (live draft rs : List Rule) (rest : List Op) → regs_after (find_steps scratch 10 r n (keep_steps scratch 10 11 r rest)) (partly n live draft rs) ≡ regs_after rest (partly n live draft (rs ++ (r ∷ [])))
one_more r n live draft rs rest = rule_regs r n (Op.negate 6 10 ∷ (Op.meet 9 3 6 ∷ (Op.clear 6 ∷ keep_steps scratch 10 11 r rest))) (partly n live draft rs) refl refl ∙ go (blocks r.action) refl
  where
    seen : (λ s. not (not (matched n rs s) && not (matches n r s))) ≡ matched n (rs ++ (r ∷ []))
    seen = fun_ext λ s. sym (matched_push n rs r s)

    go : (b : Bool) → blocks r.action ≡ b → regs_after (Op.negate 6 10 ∷ (Op.meet 9 3 6 ∷ (Op.clear 6 ∷ keep_steps scratch 10 11 r rest))) (put (partly n live draft rs) 3 (matches n r)) ≡ regs_after rest (partly n live draft (rs ++ (r ∷ [])))
    go true h = rw h (ap (regs_after rest) (same_regs refl refl refl refl refl refl refl refl refl refl seen (fun_ext λ s. sym (block_push n rs r s h)) (λ x f. grind (arith, nat_tests))))
    go false h = rw h (ap (regs_after rest) (same_regs refl refl refl refl refl refl refl refl refl refl seen (fun_ext λ s. sym (pass_push n rs r s h)) (λ x f. grind (arith, nat_tests))))

rebuild_regs : (n : ℕ) (live draft ps rs : List Rule) (rest : List Op) → regs_after (rebuild_steps rs n rest) (partly n live draft ps) ≡ regs_after rest (partly n live draft (ps ++ rs))
rebuild_regs n live draft ps [] rest = ap (λ (l : List Rule). regs_after rest (partly n live draft l)) (sym (append-nil ps))
rebuild_regs n live draft ps (r ∷ rs) rest =
    one_more r n live draft ps (rebuild_steps rs n rest)
    ∙ rebuild_regs n live draft (ps ++ (r ∷ [])) rs rest
    ∙ ap (λ (l : List Rule). regs_after rest (partly n live draft l)) (append_assoc ps (r ∷ []) rs)

start : (n : ℕ) (live draft : List Rule) → meaning n live draft ≡ partly n live draft []
start n live draft = put_self (meaning n live draft) 10 ∙ ap (λ (m : Regs). put m 10 (λ _. false)) (put_self (meaning n live draft) 11)

replaced : (n : ℕ) (live draft rs : List Rule) (x : ℕ) → regs_after (replace_steps []) (partly n live draft rs) x ≡ meaning n live rs x
replaced n live draft rs x = grind (arith, nat_tests)

tidy_rebuild : (n : ℕ) (rs : List Rule) → tidy_all own n (rebuild_steps rs n []) ≡ true
tidy_rebuild n [] = refl
tidy_rebuild n (r ∷ rs) = tidy_bits r n n (Op.negate 6 10 ∷ (Op.meet 9 3 6 ∷ (Op.clear 6 ∷ keep_steps scratch 10 11 r (rebuild_steps rs n [])))) (omega arith) (go (blocks r.action) (tidy_rebuild n rs))
  where
    go : (b : Bool) → tidy_all own n (rebuild_steps rs n []) ≡ true → tidy_all own n (cond b (join_steps scratch 10 10 3 (join_steps scratch 11 11 9 (rebuild_steps rs n []))) (Op.clear 9 ∷ join_steps scratch 10 10 3 (rebuild_steps rs n []))) ≡ true
    go true h = h
    go false h = h

module _ (R : Rooms) (rs : List Rule) (n : ℕ) (live draft : List Rule) (e e' : View R.Shape) (means : e.regs ≡ meaning n live draft) where
  pub rebuilds_ok : (x : Unit {0}) → Rebuilds R rs n e e' (Ok x) → (ran R e (withdraw_steps rs n) ≡ (e', Ok tt)) × (e'.vars ≡ e.vars) × (e'.regs ≡ meaning n live rs)
  rebuilds_ok x (at, built, written) =
      let whole : ran R e (withdraw_steps rs n) ≡ (e', Ok tt) = built.goes (replace_steps []) ∙ written.goes [] in
      let w = ran_regs R e e' (withdraw_steps rs n) whole in (
        whole,
        w.0,
        w.1 ∙ ap (regs_after (withdraw_steps rs n)) (means ∙ start n live draft) ∙ rebuild_regs n live draft [] rs (replace_steps []) ∙ fun_ext (replaced n live draft rs),
      )

  pub rebuilds_err : (f : EngineFault) → e.vars ≡ n → Rebuilds R rs n e e' (Err f) → (f ≡ Room) × (e'.vars ≡ e.vars) × (e'.regs ≡ meaning n live draft)
  rebuilds_err f vars (at, built, swept) = swept_back R n live draft e at e' (rebuild_steps rs n []) f means vars (built.goes []) (tidy_rebuild n rs) swept
