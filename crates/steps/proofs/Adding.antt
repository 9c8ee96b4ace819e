-- What the steps of an add come to.
use Rattle.std.proofs.Common.{◌≡◌, ℕ, zero, suc, ◌+◌, ◌≤◌, Bool, true, false, cond, not, ◌&&◌, eqb, leb, List, [], ◌∷◌, ◌++◌, length, Ok, Err, sym, refl, ap, ◌∙◌, subst, arith, le-leb}
use mathlib.Core.Path.{fun_ext}
use Rattle.std.proofs.Math.Bool.{and-true, and_assoc}
use Rattle.std.proofs.lemmas.Bool.{false_from_ne_true}
use Rattle.std.proofs.lemmas.Bool.Decides.{nat_tests}
use Rattle.engine.specs.declared.fault.EngineFault.{EngineFault}
use Rattle.engine.specs.declared.fault.EngineFault.TheVariants.{Room}
use Rattle.engine.specs.Ops.{Op, Regs, Bits, put, bit_at}
use Rattle.engine.specs.Does.{Rooms, View, Says}
use Rattle.engine.specs.Rows.{Ran, ran}
use Rattle.engine.proofs.Rows.{regs_after, ran_regs}
use Rattle.engine.proofs.Puts.{put_self}
use Rattle.engine.proofs.Tidy.{tidy_all, ran_tidy, and_l}
use Rattle.kind.specs.declared.rule.Rule.{Rule}
use Rattle.kind.specs.Rules.{agrees, agrees_at, matches, matched, judged, blocks}
use Rattle.steps.specs.Steps.{scratch, bit_steps, bits_steps, rule_steps, join_steps, keep_steps, find_steps, work_steps, store_steps, sweep_steps}
use Rattle.steps.specs.Works.{Admits}
use Rattle.steps.specs.Meaning.{meaning, Decides}
use Rattle.steps.proofs.Registers.{same_regs}

-- a bit more at the end
agrees_push : (r : Rule) (s : Bits) (u k : ℕ) → agrees r s u (suc k) ≡ (agrees r s u k && agrees_at r s (u + k))
agrees_push r s u zero = grind arith
agrees_push r s u (suc k) = let e : suc u + k ≡ u + suc k = omega arith in ap (λ x. agrees_at r s u && x) (agrees_push r s (suc u) k ∙ rw e refl) ∙ sym (and_assoc (agrees_at r s u) _ _)

-- registers 4 and 5 are false before and after
bit_regs : (r : Rule) (v : ℕ) (rest : List Op) (m : Regs) → m 4 ≡ (λ _. false) → m 5 ≡ (λ _. false) → regs_after (bit_steps scratch r v rest) m ≡ regs_after rest (put m 3 (λ s. agrees_at r s v && m 3 s))
bit_regs r v rest m h k = go (bit_at r.care v) (bit_at r.value v)
  where
    go : (a b : Bool) → regs_after (cond a (Op.literal 4 v ∷ cond b (Op.meet 3 4 3 ∷ (Op.clear 4 ∷ rest)) (Op.negate 5 4 ∷ (Op.clear 4 ∷ (Op.meet 3 5 3 ∷ (Op.clear 5 ∷ rest))))) rest) m ≡ regs_after rest (put m 3 (λ s. cond a (cond b (s v) (not (s v))) true && m 3 s))
    go true true = ap (regs_after rest) (fun_ext λ x. grind (arith, nat_tests))
    go true false = ap (regs_after rest) (fun_ext λ x. grind (arith, nat_tests))
    go false b = ap (regs_after rest) (put_self m 3)

-- the bits v down to 1
bits_regs : (r : Rule) (v : ℕ) (rest : List Op) (m : Regs) → m 4 ≡ (λ _. false) → m 5 ≡ (λ _. false) → regs_after (bits_steps scratch r v rest) m ≡ regs_after rest (put m 3 (λ s. agrees r s 1 v && m 3 s))
bits_regs r zero rest m h k = ap (regs_after rest) (put_self m 3)
bits_regs r (suc v) rest m h k =
    bit_regs r (suc v) (bits_steps scratch r v rest) m h k
    ∙ bits_regs r v rest (put m 3 (λ s. agrees_at r s (suc v) && m 3 s)) h k
    ∙ ap (regs_after rest) (fun_ext λ x. twice x (eqb x 3))
  where
    both : (s : Bits) → (agrees r s 1 v && (agrees_at r s (suc v) && m 3 s)) ≡ (agrees r s 1 (suc v) && m 3 s)
    both s = let e : 1 + v ≡ suc v = omega arith in sym (and_assoc (agrees r s 1 v) (agrees_at r s (suc v)) (m 3 s)) ∙ ap (λ x. x && m 3 s) (sym (agrees_push r s 1 v ∙ rw e refl))

    twice : (x : ℕ) (b : Bool) → cond b (λ s. agrees r s 1 v && (agrees_at r s (suc v) && m 3 s)) (cond b (λ s. agrees_at r s (suc v) && m 3 s) (m x)) ≡ cond b (λ s. agrees r s 1 (suc v) && m 3 s) (m x)
    twice x true = fun_ext both
    twice x false = refl

-- the rule's frames
pub rule_regs : (r : Rule) (n : ℕ) (rest : List Op) (m : Regs) → m 4 ≡ (λ _. false) → m 5 ≡ (λ _. false) → regs_after (rule_steps scratch r n rest) m ≡ regs_after rest (put m 3 (matches n r))
rule_regs r n rest m h k = bits_regs r n rest (put m 3 (λ s. not (m 4 s))) h k ∙ ap (regs_after rest) (fun_ext λ x. twice x (eqb x 3))
  where
    twice : (x : ℕ) (b : Bool) → cond b (λ s. agrees r s 1 n && not (m 4 s)) (cond b (λ s. not (m 4 s)) (m x)) ≡ cond b (matches n r) (m x)
    twice x true = fun_ext λ s. rw h (and-true (agrees r s 1 n))
    twice x false = refl

-- one rule more
pub matched_push : (n : ℕ) (rs : List Rule) (r : Rule) (s : Bits) → matched n (rs ++ (r ∷ [])) s ≡ not (not (matched n rs s) && not (matches n r s))
matched_push n [] r s = grind arith
matched_push n (q ∷ rs) r s = grind (arith, matched_push n rs r s)

pub block_push : (n : ℕ) (rs : List Rule) (r : Rule) (s : Bits) → blocks r.action ≡ true → judged n (rs ++ (r ∷ [])) s ≡ not (not (judged n rs s) && not (matches n r s && not (matched n rs s)))
block_push n [] r s h = grind arith
block_push n (q ∷ rs) r s h = grind (arith, block_push n rs r s h)

pub pass_push : (n : ℕ) (rs : List Rule) (r : Rule) (s : Bits) → blocks r.action ≡ false → judged n (rs ++ (r ∷ [])) s ≡ judged n rs s
pass_push n [] r s h = grind arith
pass_push n (q ∷ rs) r s h = grind (arith, pass_push n rs r s h)

-- after the rule's frames stand in register 3
abbrev rest_steps : Rule → List Op
rest_steps r = Op.negate 6 2 ∷ (Op.meet 9 3 6 ∷ (Op.clear 6 ∷ (Op.empty 9 ∷ keep_steps scratch 2 1 r (store_steps r []))))

rest_regs : (r : Rule) (n : ℕ) (live draft : List Rule) → regs_after (rest_steps r) (put (meaning n live draft) 3 (matches n r)) ≡ meaning n live (draft ++ (r ∷ []))
rest_regs r n live draft = go (blocks r.action) refl
  where
    seen : (λ s. not (not (matched n draft s) && not (matches n r s))) ≡ matched n (draft ++ (r ∷ []))
    seen = fun_ext λ s. sym (matched_push n draft r s)

    go : (b : Bool) → blocks r.action ≡ b → regs_after (rest_steps r) (put (meaning n live draft) 3 (matches n r)) ≡ meaning n live (draft ++ (r ∷ []))
    go true h = rw h (same_regs refl (fun_ext λ s. sym (block_push n draft r s h)) seen refl refl refl refl refl refl refl refl refl (λ x f. grind (arith, nat_tests)))
    go false h = rw h (same_regs refl (fun_ext λ s. sym (pass_push n draft r s h)) seen refl refl refl refl refl refl refl refl refl (λ x f. grind (arith, nat_tests)))

-- the scratch registers
abbrev pub own : ℕ → Bool
own x = leb 3 x && leb x 11

tidy_bit : (r : Rule) (n v : ℕ) (rest : List Op) → 1 ≤ v → v ≤ n → tidy_all own n rest ≡ true → tidy_all own n (bit_steps scratch r v rest) ≡ true
tidy_bit r n v rest h k t = go (bit_at r.care v) (bit_at r.value v)
  where
    go : (a b : Bool) → tidy_all own n (cond a (Op.literal 4 v ∷ cond b (Op.meet 3 4 3 ∷ (Op.clear 4 ∷ rest)) (Op.negate 5 4 ∷ (Op.clear 4 ∷ (Op.meet 3 5 3 ∷ (Op.clear 5 ∷ rest))))) rest) ≡ true
    go true true = rw (le-leb 1 v h, le-leb v n k) t
    go true false = rw (le-leb 1 v h, le-leb v n k) t
    go false b = t

pub tidy_bits : (r : Rule) (n v : ℕ) (rest : List Op) → v ≤ n → tidy_all own n rest ≡ true → tidy_all own n (bits_steps scratch r v rest) ≡ true
tidy_bits r n zero rest h t = t
tidy_bits r n (suc v) rest h t = tidy_bit r n (suc v) (bits_steps scratch r v rest) (omega arith) h (tidy_bits r n v rest (omega arith) t)

tidy_work : (r : Rule) (n : ℕ) → tidy_all own n (work_steps scratch r n []) ≡ true
tidy_work r n = tidy_bits r n n (Op.negate 6 2 ∷ (Op.meet 9 3 6 ∷ (Op.clear 6 ∷ (Op.empty 9 ∷ keep_steps scratch 2 1 r [])))) (omega arith) (go (blocks r.action))
  where
    go : (b : Bool) → tidy_all own n (cond b (join_steps scratch 10 2 3 (join_steps scratch 11 1 9 [])) (Op.clear 9 ∷ join_steps scratch 10 2 3 [])) ≡ true
    go true = refl
    go false = refl

-- the last rule decides the frames that it matches and no other does
decides_last : (n : ℕ) (rs : List Rule) (r : Rule) (s : Bits) → Decides n (rs ++ (r ∷ [])) (length rs) s → (matches n r s && not (matched n rs s)) ≡ true
decides_last n [] r s d = rw d refl
decides_last n (q ∷ rs) r s d = rw d.0 (decides_last n rs r s d.1)

last_decides : (n : ℕ) (rs : List Rule) (r : Rule) (s : Bits) → (matches n r s && not (matched n rs s)) ≡ true → Decides n (rs ++ (r ∷ [])) (length rs) s
last_decides n [] r s h = and_l (matches n r s) true h
last_decides n (q ∷ rs) r s h = grind (arith, last_decides n rs r s)

-- where the other registers mean what the books say, clearing the scratch registers makes all of them do so
pub swept_regs : (n : ℕ) (live draft : List Rule) (m : Regs) → ((x : ℕ) → own x ≡ false → m x ≡ meaning n live draft x) → (x : ℕ) → regs_after (sweep_steps []) m x ≡ meaning n live draft x
swept_regs n live draft m same x = grind (arith, nat_tests, same)

-- a row that was refused and wrote scratch registers only, and the clearing after it
pub swept_back : (R : Rooms) (n : ℕ) (live draft : List Rule) (e at e' : View R.Shape) (ops : List Op) (f : EngineFault) → e.regs ≡ meaning n live draft → e.vars ≡ n → ran R e ops ≡ (at, Err f) → tidy_all own n ops ≡ true → Ran {A = Unit {0}} R sweep_steps at e' (Ok tt) → (f ≡ Room) × (e'.vars ≡ e.vars) × (e'.regs ≡ meaning n live draft)
swept_back R n live draft e at e' ops f means vars h tidy swept =
    let t = ran_tidy own R e at ops (Err f) h (subst (λ (m : ℕ). tidy_all own m ops ≡ true) (sym vars) tidy) in
    let w = ran_regs R at e' (sweep_steps []) (swept.goes []) in
    let same : (x : ℕ) → own x ≡ false → at.regs x ≡ meaning n live draft x = λ x o. t.2 x o ∙ ap (λ (m : Regs). m x) means in
    (t.0, w.0 ∙ t.1, w.1 ∙ fun_ext λ x. swept_regs n live draft at.regs same x)

module _ (R : Rooms) (rule : Rule) (n : ℕ) (live draft : List Rule) (e e' : View R.Shape) (means : e.regs ≡ meaning n live draft) where
  find_regs : (mid : View R.Shape) → ran R e (find_steps scratch 2 rule n []) ≡ (mid, Ok tt) → mid.regs 9 ≡ (λ s. matches n rule s && not (matched n draft s))
  find_regs mid h =
      ap (λ (m : Regs). m 9) ((ran_regs R e mid (find_steps scratch 2 rule n []) h).1 ∙ ap (regs_after (find_steps scratch 2 rule n [])) means ∙ rule_regs rule n (Op.negate 6 2 ∷ (Op.meet 9 3 6 ∷ (Op.clear 6 ∷ []))) (meaning n live draft) refl refl)

  pub admits_ok : (x : Bool) → Admits R rule n e e' (Ok x) → (e'.vars ≡ e.vars) × (e'.regs ≡ meaning n live (draft ++ (rule ∷ []))) × Says x ((s : Bits) → Decides n (draft ++ (rule ∷ [])) (length draft) s → ⊥)
  admits_ok x (at, works, stored) =
      let whole = ran_regs R e e' (work_steps scratch rule n (store_steps rule [])) (works.row.goes (store_steps rule []) ∙ stored.goes []) in
      let (mid, h, says) = works.idle x refl in
      let fresh = find_regs mid h in (
        whole.0,
        whole.1 ∙ ap (regs_after (work_steps scratch rule n (store_steps rule []))) means ∙ rule_regs rule n (rest_steps rule) (meaning n live draft) refl refl ∙ rest_regs rule n live draft,
        (
          λ t s d. let z : false ≡ true = sym (says.0 t s) ∙ ap (λ (f : Bits → Bool). f s) fresh ∙ decides_last n draft rule s d in cc,
          λ none. says.1 (λ s. ap (λ (f : Bits → Bool). f s) fresh ∙ false_from_ne_true _ (λ k. none s (last_decides n draft rule s k))),
        ),
      )

  pub admits_err : (f : EngineFault) → e.vars ≡ n → Admits R rule n e e' (Err f) → (f ≡ Room) × (e'.vars ≡ e.vars) × (e'.regs ≡ meaning n live draft)
  admits_err f vars (at, works, swept) = swept_back R n live draft e at e' (work_steps scratch rule n []) f means vars (works.row.goes []) (tidy_work rule n) swept
