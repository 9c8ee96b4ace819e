-- What the calls of a compare come to.
use Rattle.std.proofs.Common.{◌≡◌, ℕ, zero, suc, ◌≤◌, Bool, true, false, ◌⊎◌, List, [], ◌∷◌, Some, None, Ok, Err, sym, refl, ap, ◌∙◌, subst, inl, inr, arith, le-leb}
use mathlib.Core.Path.{fun_ext}
use Rattle.std.proofs.lemmas.Bool.{cases_eq, true_from_ne_false, true≢false}
use Rattle.engine.specs.declared.fault.EngineFault.{EngineFault}
use Rattle.engine.specs.declared.fault.EngineFault.TheVariants.{Room}
use Rattle.engine.specs.Ops.{Op, Regs, Bits, put, held, bit_at}
use Rattle.engine.specs.Does.{Rooms, View, Says, Tests}
use Rattle.engine.specs.Rows.{Ran, ran}
use Rattle.engine.proofs.Rows.{row, regs_after, ran_regs}
use Rattle.engine.proofs.Tidy.{tidy_all}
use Rattle.engine.proofs.Puts.{put_self, put_twice}
use Rattle.kind.specs.declared.rule.Rule.{Rule}
use Rattle.kind.specs.Rules.{judged}
use Rattle.steps.specs.Meaning.{meaning}
use Rattle.steps.proofs.Rows.{test_says}
use Rattle.steps.proofs.Adding.{own, swept_back}
use Rattle.search.specs.Steps.{places, pick_steps, hunt_steps, differ_steps, alike_steps, least_steps}
use Rattle.search.specs.Least.{Below, Least}
use Rattle.search.specs.Seeks.{Seeks, Finds, Void}
use Rattle.search.proofs.Seeking.{holding, Chosen, left, lowest, right_bit, as_least, hunt_regs, differ_regs, apart, apart_true, apart_false, true_apart, judged_local, hold_in, trail_ran, trail_regs, trail_chosen}

pub hunt_ext : (p q : Bits) (k : ℕ) (rest : List Op) → ((v : ℕ) → 1 ≤ v → v ≤ k → p v ≡ q v) → hunt_steps places p k rest ≡ hunt_steps places q k rest
hunt_ext p q zero rest h = refl
hunt_ext p q (suc k) rest h = ap (λ (x : Bool). hunt_steps places p k (pick_steps places (suc k) x rest)) (h (suc k) (omega arith) (omega arith)) ∙ hunt_ext p q k (pick_steps places (suc k) (q (suc k)) rest) (λ v a b. h v a (omega arith))

hunt_upto : (p : Bits) (j n : ℕ) → j ≤ n → (rest : List Op) → (more : List Op) × (hunt_steps places p n rest ≡ hunt_steps places p j more)
hunt_upto p j zero h rest = (rest, let e : ◌≡◌ {A = ℕ} 0 j = omega arith in ap (λ (x : ℕ). hunt_steps places p x rest) e)
hunt_upto p j (suc n) h rest = go (λ l. hunt_upto p j n l (pick_steps places (suc n) (p (suc n)) rest)) (cases_eq j (suc n))
  where
    go : (j ≤ n → (more : List Op) × (hunt_steps places p (suc n) rest ≡ hunt_steps places p j more)) → (j ≡ suc n) ⊎ (j ≡ suc n → ⊥) → (more : List Op) × (hunt_steps places p (suc n) rest ≡ hunt_steps places p j more)
    go i (inl e) = (rest, ap (λ (x : ℕ). hunt_steps places p x rest) (sym e))
    go i (inr m) = i (omega arith)

tidy_pick : (n v : ℕ) (x : Bool) (rest : List Op) → 1 ≤ v → v ≤ n → tidy_all own n rest ≡ true → tidy_all own n (pick_steps places v x rest) ≡ true
tidy_pick n v true rest h k t = rw (le-leb 1 v h, le-leb v n k) t
tidy_pick n v false rest h k t = rw (le-leb 1 v h, le-leb v n k) t

tidy_hunt : (p : Bits) (n k : ℕ) (rest : List Op) → k ≤ n → tidy_all own n rest ≡ true → tidy_all own n (hunt_steps places p k rest) ≡ true
tidy_hunt p n zero rest h t = t
tidy_hunt p n (suc k) rest h t = tidy_hunt p n k (pick_steps places (suc k) (p (suc k)) rest) (omega arith) (tidy_pick n (suc k) (p (suc k)) rest (omega arith) h t)

alike_apart : (f g : Bits → Bool) (s : Bits) → f s ≡ g s → apart f g s ≡ false
alike_apart f g s h = grind arith

module _ (R : Rooms) (n : ℕ) (live draft : List Rule) (e : View R.Shape) (means : e.regs ≡ meaning n live draft) where
  -- after the differing frames was made
  made : (mid : View R.Shape) → Ran {A = Unit {0}} R (differ_steps places 0 1) e mid (Ok tt) → (mid.vars ≡ e.vars) × (mid.regs ≡ put (meaning n live draft) 9 (apart (judged n live) (judged n draft)))
  made mid p = let w = ran_regs R e mid (differ_steps places 0 1 []) (p.goes []) in (w.0, w.1 ∙ ap (regs_after (differ_steps places 0 1 [])) means ∙ differ_regs n live draft [])

  -- what the test says of the books
  says_alike : (mid at : View R.Shape) (x : Bool) → Ran {A = Unit {0}} R (differ_steps places 0 1) e mid (Ok tt) → Tests R 9 mid at (Ok x) → Says x ((s : Bits) → apart (judged n live) (judged n draft) s ≡ false)
  says_alike mid at x p t = subst (λ (f : Bits → Bool). Says x ((s : Bits) → f s ≡ false)) (ap (λ (m : Regs). m 9) (made mid p).1) (test_says t)

  -- after the test
  at_regs : (mid at : View R.Shape) (x : Bool) → Ran {A = Unit {0}} R (differ_steps places 0 1) e mid (Ok tt) → Tests R 9 mid at (Ok x) → (at.vars ≡ e.vars) × (at.regs ≡ put (meaning n live draft) 9 (apart (judged n live) (judged n draft)))
  at_regs mid at x p t = let w = made mid p in (ap (λ (v : View R.Shape). v.vars) t.does.left ∙ w.0, ap (λ (v : View R.Shape). v.regs) t.does.left ∙ w.1)

  cleared : (d : Bits → Bool) → put (put (meaning n live draft) 9 d) 9 (λ _. false) ≡ meaning n live draft
  cleared d = put_twice (meaning n live draft) 9 d (λ _. false) ∙ sym (put_self (meaning n live draft) 9)

  module _ (e' : View R.Shape) where
    pub none_ran : Finds R n e e' (Ok None) → ran R e alike_steps ≡ (e', Ok tt)
    none_ran (mid, at, p, t, c) = p.goes (Op.empty 9 ∷ (Op.clear 9 ∷ [])) ∙ (row t.does).goes (Op.clear 9 ∷ []) ∙ c.goes []

    pub none_alike : Finds R n e e' (Ok None) → (s : Bits) → judged n live s ≡ judged n draft s
    none_alike (mid, at, p, t, c) s = apart_false (judged n live) (judged n draft) s ((says_alike mid at true p t).0 refl s)

    pub none_regs : Finds R n e e' (Ok None) → (e'.vars ≡ e.vars) × (e'.regs ≡ meaning n live draft)
    none_regs h =
        let w = ran_regs R e e' alike_steps (none_ran h) in
        (w.0, w.1 ∙ ap (regs_after alike_steps) means ∙ differ_regs n live draft (Op.empty 9 ∷ (Op.clear 9 ∷ [])) ∙ cleared (apart (judged n live) (judged n draft)))

    pub some_ran : (bits : List ℕ) → Finds R n e e' (Ok (Some bits)) → ran R e (least_steps n (bit_at bits)) ≡ (e', Ok tt)
    some_ran bits (mid, at, end, p, t, tr, c) = p.goes (Op.empty 9 ∷ hunt_steps places (bit_at bits) n (Op.clear 9 ∷ [])) ∙ (row t.does).goes (hunt_steps places (bit_at bits) n (Op.clear 9 ∷ [])) ∙ (trail_ran R (bit_at bits) n at end tr).goes (Op.clear 9 ∷ []) ∙ c.goes []

    pub some_regs : (bits : List ℕ) → Finds R n e e' (Ok (Some bits)) → (e'.vars ≡ e.vars) × (e'.regs ≡ meaning n live draft)
    some_regs bits h =
        let w = ran_regs R e e' (least_steps n (bit_at bits)) (some_ran bits h) in
        let d : Bits → Bool = apart (judged n live) (judged n draft) in (
          w.0,
          w.1 ∙ ap (regs_after (least_steps n (bit_at bits))) means ∙ differ_regs n live draft (Op.empty 9 ∷ hunt_steps places (bit_at bits) n (Op.clear 9 ∷ []))
              ∙ hunt_regs (bit_at bits) n (Op.clear 9 ∷ []) (put (meaning n live draft) 9 d) refl
              ∙ ap (λ (m : Regs). put m 9 (λ _. false)) (put_twice (meaning n live draft) 9 d (λ s. d (holding (bit_at bits) n s)))
              ∙ cleared (λ s. d (holding (bit_at bits) n s)),
        )

    pub some_least : (bits : List ℕ) → Finds R n e e' (Ok (Some bits)) → Least n (judged n live) (judged n draft) (bit_at bits)
    some_least bits (mid, at, end, p, t, tr, c) = record {
      differ = true_apart (judged n live) (judged n draft) q here;
      least = λ s k b. lowest d q n chosen s (apart_true (judged n live) (judged n draft) s k) b;
    }
      where
        q : Bits
        q = bit_at bits

        d : Bits → Bool
        d = apart (judged n live) (judged n draft)

        ten : at.regs 9 ≡ d
        ten = ap (λ (m : Regs). m 9) (at_regs mid at false p t).1

        chosen : Chosen d q n
        chosen = subst (λ (f : Bits → Bool). Chosen f q n) ten (trail_chosen R q n at end (ap (λ (m : Regs). m 10) (at_regs mid at false p t).1) tr)

        local : (s : Bits) → d (holding q n s) ≡ d q
        local s = rw (judged_local n live (holding q n s) q (λ v a b. hold_in q n s v a b), judged_local n draft (holding q n s) q (λ v a b. hold_in q n s v a b)) refl

        here : d q ≡ true
        here = true_from_ne_false (d q) (λ z. left d q n (λ all. true≢false (sym ((says_alike mid at false p t).1 all))) chosen (λ s. local s ∙ z))

    -- what a refused search did, as a row of calls that write scratch registers only
    seek_tidy : (f : EngineFault) → Seeks R n e e' (Err f) → (ops : List Op) × (ran R e ops ≡ (e', Err f)) × (tidy_all own n ops ≡ true)
    seek_tidy f (inl p) = (differ_steps places 0 1 [], p.goes [], refl)
    seek_tidy f (inr (inl (mid, p, t))) = (differ_steps places 0 1 (Op.empty 9 ∷ []), p.goes (Op.empty 9 ∷ []) ∙ (row t.does).goes [], refl)
    seek_tidy f (inr (inr (mid, at, p, t, (s, k, m, l, tr, ch)))) =
        let tail : List Op = pick_steps places (suc k) ch.some.0 [] in (
          differ_steps places 0 1 (Op.empty 9 ∷ hunt_steps places s k tail),
          p.goes (Op.empty 9 ∷ hunt_steps places s k tail) ∙ (row t.does).goes (hunt_steps places s k tail) ∙ (trail_ran R s k at m tr).goes tail ∙ ch.some.1.goes [],
          tidy_hunt s n k tail (omega arith) (tidy_pick n (suc k) ch.some.0 [] (omega arith) l refl),
        )

    -- a refused search of books that are alike
    pub seek_alike : (f : EngineFault) → ((s : Bits) → judged n live s ≡ judged n draft s) → Seeks R n e e' (Err f) → ran R e alike_steps ≡ (e', Err f)
    seek_alike f same (inl p) = p.goes (Op.empty 9 ∷ (Op.clear 9 ∷ []))
    seek_alike f same (inr (inl (mid, p, t))) = p.goes (Op.empty 9 ∷ (Op.clear 9 ∷ [])) ∙ (row t.does).goes (Op.clear 9 ∷ [])
    seek_alike f same (inr (inr (mid, at, p, t, h))) = absurd (true≢false (sym ((says_alike mid at false p t).1 (λ s. alike_apart (judged n live) (judged n draft) s (same s)))))

    -- a refused search of books of which q is the least frame
    pub seek_least : (f : EngineFault) (q : Bits) → Least n (judged n live) (judged n draft) q → Seeks R n e e' (Err f) → ran R e (least_steps n q) ≡ (e', Err f)
    seek_least f q low (inl p) = p.goes (Op.empty 9 ∷ hunt_steps places q n (Op.clear 9 ∷ []))
    seek_least f q low (inr (inl (mid, p, t))) = p.goes (Op.empty 9 ∷ hunt_steps places q n (Op.clear 9 ∷ [])) ∙ (row t.does).goes (hunt_steps places q n (Op.clear 9 ∷ []))
    seek_least f q low (inr (inr (mid, at, p, t, (s, k, m, l, tr, ch)))) =
        p.goes (Op.empty 9 ∷ hunt_steps places q n (Op.clear 9 ∷ []))
        ∙ (row t.does).goes (hunt_steps places q n (Op.clear 9 ∷ []))
        ∙ ap (ran R at) (upto.1 ∙ sym (hunt_ext s q k (pick_steps places (suc k) (q (suc k)) upto.0) agree))
        ∙ (trail_ran R s k at m tr).goes (pick_steps places (suc k) (q (suc k)) upto.0)
        ∙ (ch.row (q (suc k)) right).goes upto.0
      where
        d : Bits → Bool
        d = apart (judged n live) (judged n draft)

        three : at.regs 10 ≡ (λ _. false)
        three = ap (λ (m : Regs). m 10) (at_regs mid at false p t).1

        ten : at.regs 9 ≡ d
        ten = ap (λ (m : Regs). m 9) (at_regs mid at false p t).1

        dq : d q ≡ true
        dq = apart_true (judged n live) (judged n draft) q low.differ

        none : (s : Bits) → d s ≡ true → Below n s q → ⊥
        none s h b = low.least s (true_apart (judged n live) (judged n draft) s h) b

        chosen : Chosen d s k
        chosen = subst (λ (f : Bits → Bool). Chosen f s k) ten (trail_chosen R s k at m three tr)

        agree : (v : ℕ) → 1 ≤ v → v ≤ k → s v ≡ q v
        agree = as_least d s n q k dq none (omega arith) chosen

        here : m.regs 9 ≡ (λ u. d (holding s k u))
        here = ap (λ (g : Regs). g 9) (trail_regs R s k at m three tr).1 ∙ fun_ext λ u. ap (λ (f : Bits → Bool). f (holding s k u)) ten

        right : Says (q (suc k)) (Void places m (suc k))
        right = subst (λ (f : Bits → Bool). Says (q (suc k)) ((u : Bits) → f (held u (suc k) false) ≡ false)) (sym here) (right_bit d s n q k dq none l agree)

        upto : (more : List Op) × (hunt_steps places q n (Op.clear 9 ∷ []) ≡ hunt_steps places q (suc k) more)
        upto = hunt_upto q (suc k) n l (Op.clear 9 ∷ [])

  pub err_regs : (e' : View R.Shape) (f : EngineFault) → e.vars ≡ n → Finds R n e e' (Err f) → (f ≡ Room) × (e'.vars ≡ e.vars) × (e'.regs ≡ meaning n live draft)
  err_regs e' f vars (at, seeks, swept) = let (ops, h, tidy) = seek_tidy at f seeks in swept_back R n live draft e at e' ops f means vars h tidy swept
