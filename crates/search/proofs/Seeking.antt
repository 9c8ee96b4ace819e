-- What the search for the least frame comes to.
use Rattle.std.proofs.Common.{◌≡◌, ℕ, zero, suc, ◌+◌, ◌<◌, ◌≤◌, Bool, true, false, not, ◌&&◌, ◌⊎◌, List, [], ◌∷◌, Ok, sym, refl, ap, ◌∙◌, subst, inl, inr, arith, eq-eqb, ne_eqb}
use mathlib.Core.Path.{fun_ext}
use Rattle.std.proofs.lemmas.Bool.{cases_eq, false_from_ne_true, true≢false}
use Rattle.std.proofs.lemmas.Bool.Decides.{nat_tests}
use Rattle.engine.specs.Ops.{Op, Regs, Bits, put, held}
use Rattle.engine.specs.Does.{Rooms, View, Says}
use Rattle.engine.specs.Rows.{Ran, ran}
use Rattle.engine.proofs.Rows.{next, retell, regs_after, ran_regs}
use Rattle.engine.proofs.Puts.{put_self, put_twice}
use Rattle.kind.specs.declared.rule.Rule.{Rule}
use Rattle.kind.specs.Rules.{agrees, judged}
use Rattle.steps.specs.Meaning.{meaning}
use Rattle.steps.proofs.Registers.{same_regs}
use Rattle.search.specs.Steps.{places, pick_steps, hunt_steps, differ_steps}
use Rattle.search.specs.Least.{Below, Least}
use Rattle.search.specs.Seeks.{Trail}
use Rattle.search.proofs.Picks.{same_says}

-- variables 1 to k are held as p has them
abbrev pub holding : Bits → ℕ → Bits → Bits
holding p zero s = s
holding p (suc k) s = holding p k (held s (suc k) (p (suc k)))

pub held_same : (t : Bits) (v : ℕ) (b : Bool) → b ≡ t v → held t v b ≡ t
held_same t v b h = fun_ext λ w. grind (arith, nat_tests)

pub held_at : (t : Bits) (v : ℕ) (b : Bool) → held t v b v ≡ b
held_at t v b = rw (eq-eqb v v refl) refl

pub held_off : (t : Bits) (v w : ℕ) (b : Bool) → (w ≡ v → ⊥) → held t v b w ≡ t w
held_off t v w b h = rw (ne_eqb w v h) refl

hold_out : (p : Bits) (k : ℕ) (s : Bits) (w : ℕ) → k < w → holding p k s w ≡ s w
hold_out p zero s w h = refl
hold_out p (suc k) s w h = hold_out p k (held s (suc k) (p (suc k))) w (omega arith) ∙ held_off s (suc k) w (p (suc k)) (λ e. omega arith)

pub hold_in : (p : Bits) (k : ℕ) (s : Bits) (w : ℕ) → 1 ≤ w → w ≤ k → holding p k s w ≡ p w
hold_in p zero s w h l = absurd (omega arith)
hold_in p (suc k) s w h l = elim (cases_eq w (suc k)) as (λ _. holding p (suc k) s w ≡ p w) [
  | inl e ↦ hold_out p k (held s (suc k) (p (suc k))) w (omega arith) ∙ rw (eq-eqb w (suc k) e) (ap p (sym e))
  | inr n ↦ hold_in p k (held s (suc k) (p (suc k))) w h (omega arith)
]

hold_same : (p t : Bits) (k : ℕ) → ((v : ℕ) → 1 ≤ v → v ≤ k → p v ≡ t v) → holding p k t ≡ t
hold_same p t zero h = refl
hold_same p t (suc k) h = ap (holding p k) (held_same t (suc k) (p (suc k)) (h (suc k) (omega arith) (omega arith))) ∙ hold_same p t k (λ v a b. h v a (omega arith))

-- the choices that are made in the set d, up to variable k
abbrev pub Chosen : (Bits → Bool) → Bits → ℕ → Type 0
Chosen d p k = (j : ℕ) → j < k → Says (p (suc j)) ((s : Bits) → d (holding p j (held s (suc j) false)) ≡ false)

module _ (d : Bits → Bool) (p : Bits) where
  -- something is left
  pub left : (k : ℕ) → (((s : Bits) → d s ≡ false) → ⊥) → Chosen d p k → ((s : Bits) → d (holding p k s) ≡ false) → ⊥
  left zero h c none = h none
  left (suc k) h c none = left k h (λ j l. c j (omega arith)) (go (p (suc k)) (c k (omega arith)) none)
    where
      go : (b : Bool) → Says b ((s : Bits) → d (holding p k (held s (suc k) false)) ≡ false) → ((s : Bits) → d (holding p k (held s (suc k) b)) ≡ false) → (s : Bits) → d (holding p k s) ≡ false
      go false says all s = absurd (true≢false (sym (says.1 all)))
      go true says all s = halves (s (suc k)) refl
        where
          halves : (x : Bool) → s (suc k) ≡ x → d (holding p k s) ≡ false
          halves true e = ap (λ (t : Bits). d (holding p k t)) (sym (held_same s (suc k) true (sym e))) ∙ all s
          halves false e = ap (λ (t : Bits). d (holding p k t)) (sym (held_same s (suc k) false (sym e))) ∙ says.0 refl s

  -- nothing lower is in the set
  pub lowest : (n : ℕ) → Chosen d p n → (t : Bits) → d t ≡ true → Below n t p → ⊥
  lowest n c t h b = go b.at refl
    where
      go : (v : ℕ) → b.at ≡ v → ⊥
      go zero e = omega (arith, b.from)
      go (suc j) e =
          let q : d (holding p j (held t (suc j) false)) ≡ false = (c j (omega (arith, b.to))).0 (ap p (sym e) ∙ b.high) t in
          let r : held t (suc j) false ≡ t = held_same t (suc j) false (sym (ap t (sym e) ∙ b.low)) in
          let u : holding p j t ≡ t = hold_same p t j (λ v x y. sym (b.before v x (omega arith))) in
          true≢false (sym h ∙ ap d (sym (ap (holding p j) r ∙ u)) ∙ q)

  -- the choice at one variable more is the least frame's
  pub right_bit : (n : ℕ) (t : Bits) (k : ℕ) → d t ≡ true → ((s : Bits) → d s ≡ true → Below n s t → ⊥) → k < n → ((v : ℕ) → 1 ≤ v → v ≤ k → p v ≡ t v) → Says (t (suc k)) ((s : Bits) → d (holding p k (held s (suc k) false)) ≡ false)
  right_bit n t k h low l same = go (t (suc k)) refl
    where
      go : (b : Bool) → t (suc k) ≡ b → Says b ((s : Bits) → d (holding p k (held s (suc k) false)) ≡ false)
      go false e = (λ z. absurd (true≢false (sym z)), λ all. absurd (true≢false (sym h ∙ ap d (sym (ap (holding p k) (held_same t (suc k) false (sym e)) ∙ hold_same p t k same)) ∙ all t)))
      go true e = (
        λ z s. false_from_ne_true _ (λ y. low (holding p k (held s (suc k) false)) y record {
          at = suc k;
          from = omega arith;
          to = omega arith;
          before = λ u a b. hold_in p k (held s (suc k) false) u a (omega arith) ∙ same u a (omega arith);
          low = hold_out p k (held s (suc k) false) (suc k) (omega arith) ∙ held_at s (suc k) false;
          high = e;
        }),
        λ all. refl,
      )

  -- so are all the choices
  pub as_least : (n : ℕ) (t : Bits) (k : ℕ) → d t ≡ true → ((s : Bits) → d s ≡ true → Below n s t → ⊥) → k ≤ n → Chosen d p k → (v : ℕ) → 1 ≤ v → v ≤ k → p v ≡ t v
  as_least n t zero h low l c v a b = absurd (omega arith)
  as_least n t (suc k) h low l c v a b = go (as_least n t k h low (omega arith) (λ j m. c j (omega arith))) (cases_eq v (suc k))
    where
      go : ((v : ℕ) → 1 ≤ v → v ≤ k → p v ≡ t v) → (v ≡ suc k) ⊎ (v ≡ suc k → ⊥) → p v ≡ t v
      go before (inl e) = ap p e ∙ same_says (p (suc k)) (t (suc k)) _ (c k (omega arith)) (right_bit n t k h low (omega arith) before) ∙ ap t (sym e)
      go before (inr m) = before v a (omega arith)

-- the registers after the calls

pick_regs : (v : ℕ) (x : Bool) (rest : List Op) (m : Regs) → m 10 ≡ (λ _. false) → regs_after (pick_steps places v x rest) m ≡ regs_after rest (put m 9 (λ s. m 9 (held s v x)))
pick_regs v true rest m h = ap (regs_after rest) (fun_ext λ r. grind (arith, nat_tests))
pick_regs v false rest m h = ap (regs_after rest) (fun_ext λ r. grind (arith, nat_tests))

pub hunt_regs : (p : Bits) (k : ℕ) (rest : List Op) (m : Regs) → m 10 ≡ (λ _. false) → regs_after (hunt_steps places p k rest) m ≡ regs_after rest (put m 9 (λ s. m 9 (holding p k s)))
hunt_regs p zero rest m h = ap (regs_after rest) (put_self m 9)
hunt_regs p (suc k) rest m h =
    hunt_regs p k (pick_steps places (suc k) (p (suc k)) rest) m h
    ∙ pick_regs (suc k) (p (suc k)) rest (put m 9 (λ s. m 9 (holding p k s))) h
    ∙ ap (regs_after rest) (put_twice m 9 (λ s. m 9 (holding p k s)) (λ s. m 9 (holding p (suc k) s)))

-- where two functions differ, as the register is made
abbrev pub apart : (Bits → Bool) → (Bits → Bool) → Bits → Bool
apart f g s = not (not (f s && not (g s)) && not (not (f s) && g s))

pub differ_regs : (n : ℕ) (live draft : List Rule) (rest : List Op) → regs_after (differ_steps places 0 1 rest) (meaning n live draft) ≡ regs_after rest (put (meaning n live draft) 9 (apart (judged n live) (judged n draft)))
differ_regs n live draft rest = ap (regs_after rest) (same_regs refl refl refl refl refl refl refl refl refl refl refl refl (λ x f. grind (arith, nat_tests)))

pub apart_true : (f g : Bits → Bool) (s : Bits) → (f s ≡ g s → ⊥) → apart f g s ≡ true
apart_true f g s h = grind arith

pub apart_false : (f g : Bits → Bool) (s : Bits) → apart f g s ≡ false → f s ≡ g s
apart_false f g s h = grind arith

pub true_apart : (f g : Bits → Bool) (s : Bits) → apart f g s ≡ true → f s ≡ g s → ⊥
true_apart f g s h e = grind arith

-- only bits 1 to n matter
agrees_local : (r : Rule) (s t : Bits) (v k : ℕ) → ((u : ℕ) → v ≤ u → u < v + k → s u ≡ t u) → agrees r s v k ≡ agrees r t v k
agrees_local r s t v zero h = refl
agrees_local r s t v (suc k) h = rw (h v (omega arith) (omega arith), agrees_local r s t (suc v) k (λ u a b. h u (omega arith) (omega arith))) refl

pub judged_local : (n : ℕ) (rs : List Rule) (s t : Bits) → ((v : ℕ) → 1 ≤ v → v ≤ n → s v ≡ t v) → judged n rs s ≡ judged n rs t
judged_local n [] s t h = refl
judged_local n (r ∷ rs) s t h = rw (agrees_local r s t 1 n (λ u a b. h u a (omega arith)), judged_local n rs s t h) refl

-- the trail of a search
pub trail_ran : (R : Rooms) (p : Bits) (k : ℕ) (e m : View R.Shape) → Trail R places p k e m → Ran {A = Unit {0}} R (hunt_steps places p k) e m (Ok tt)
trail_ran R p zero e m t = record { goes = λ rest. ap (λ (v : View R.Shape). ran R v rest) (sym t) }
trail_ran R p (suc k) e m (x, t, c) = next (trail_ran R p k e x t) (retell (c.row (p (suc k)) (c.right (p (suc k)) refl)) tt)

pub trail_regs : (R : Rooms) (p : Bits) (k : ℕ) (e m : View R.Shape) → e.regs 10 ≡ (λ _. false) → Trail R places p k e m → (m.vars ≡ e.vars) × (m.regs ≡ put e.regs 9 (λ s. e.regs 9 (holding p k s)))
trail_regs R p k e m h t = let w = ran_regs R e m (hunt_steps places p k []) ((trail_ran R p k e m t).goes []) in (w.0, w.1 ∙ hunt_regs p k [] e.regs h)

pub trail_chosen : (R : Rooms) (p : Bits) (k : ℕ) (e m : View R.Shape) → e.regs 10 ≡ (λ _. false) → Trail R places p k e m → Chosen (e.regs 9) p k
trail_chosen R p zero e m h t j l = absurd (omega arith)
trail_chosen R p (suc k) e m h (x, t, c) j l = go (λ q. trail_chosen R p k e x h t j q) (cases_eq j k)
  where
    go : (j < k → Says (p (suc j)) ((s : Bits) → e.regs 9 (holding p j (held s (suc j) false)) ≡ false)) → (j ≡ k) ⊎ (j ≡ k → ⊥) → Says (p (suc j)) ((s : Bits) → e.regs 9 (holding p j (held s (suc j) false)) ≡ false)
    go i (inr n) = i (omega arith)
    go i (inl q) = subst (λ (y : ℕ). Says (p (suc y)) ((s : Bits) → e.regs 9 (holding p y (held s (suc y) false)) ≡ false)) (sym q)
        (subst (λ (f : Bits → Bool). Says (p (suc k)) ((s : Bits) → f (held s (suc k) false) ≡ false)) (ap (λ (y : Regs). y 9) (trail_regs R p k e x h t).1) (c.right (p (suc k)) refl))

-- bits past n do not matter
pub least_ext : (n : ℕ) (xs ys : List Rule) (s t : Bits) → ((v : ℕ) → 1 ≤ v → v ≤ n → s v ≡ t v) → Least n (judged n xs) (judged n ys) s → Least n (judged n xs) (judged n ys) t
least_ext n xs ys s t h l = record {
  differ = λ e. l.differ (judged_local n xs s t h ∙ e ∙ sym (judged_local n ys s t h));
  least = λ u d b. l.least u d record { at = b.at; from = b.from; to = b.to; before = λ w x y. b.before w x y ∙ sym (h w x (omega (arith, y, b.to))); low = b.low; high = h b.at b.from b.to ∙ b.high };
}

-- two least assignments have the same bits
pub least_unique : (n : ℕ) (f g : Bits → Bool) (s t : Bits) → Least n f g s → Least n f g t → (k : ℕ) → k ≤ n → (v : ℕ) → 1 ≤ v → v ≤ k → s v ≡ t v
least_unique n f g s t p q zero h v a b = absurd (omega arith)
least_unique n f g s t p q (suc k) h v a b = go (least_unique n f g s t p q k (omega arith)) (cases_eq v (suc k))
  where
    go : ((v : ℕ) → 1 ≤ v → v ≤ k → s v ≡ t v) → (v ≡ suc k) ⊎ (v ≡ suc k → ⊥) → s v ≡ t v
    go i (inr n) = i v a (omega arith)
    go i (inl e) = ap s e ∙ bit (s (suc k)) (t (suc k)) refl refl ∙ ap t (sym e)
      where
        bit : (x y : Bool) → s (suc k) ≡ x → t (suc k) ≡ y → s (suc k) ≡ t (suc k)
        bit true true u w = u ∙ sym w
        bit false false u w = u ∙ sym w
        bit false true u w = absurd (q.least s p.differ record { at = suc k; from = omega arith; to = h; before = λ y c d. i y c (omega arith); low = u; high = w })
        bit true false u w = absurd (p.least t q.differ record { at = suc k; from = omega arith; to = h; before = λ y c d. sym (i y c (omega arith)); low = w; high = u })
