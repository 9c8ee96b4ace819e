-- Two books are alike, or there is a least frame that they judge differently.
use Rattle.std.proofs.Common.{◌≡◌, ℕ, zero, suc, ◌+◌, ◌<◌, ◌≤◌, Bool, true, false, ◌⊎◌, List, sym, refl, ap, ◌∙◌, inl, inr, arith}
use Rattle.std.proofs.lemmas.Bool.{cases_eq, cases_order, true≢false}
use Rattle.engine.specs.Ops.{Bits, held}
use Rattle.kind.specs.declared.rule.Rule.{Rule}
use Rattle.kind.specs.Rules.{judged}
use Rattle.search.specs.Least.{Below, Least}
use Rattle.search.proofs.Seeking.{held_at, held_off, apart, apart_true, apart_false, true_apart, judged_local}

abbrev Agree : ℕ → Bits → Bits → Type 0
Agree v p t = (u : ℕ) → 1 ≤ u → u ≤ v → p u ≡ t u

-- the least of those that agree with p up to v, or none
abbrev Scan : (Bits → Bool) → ℕ → ℕ → Bits → Type 0
Scan d n v p = ((t : Bits) → Agree v p t → d t ≡ false) ⊎ ((q : Bits) × Agree v p q × (d q ≡ true) × ((t : Bits) → Agree v p t → d t ≡ true → Below n t q → ⊥))

-- agreeing at one variable more
agree_more : (v : ℕ) (p t : Bits) (b : Bool) → Agree v p t → t (suc v) ≡ b → Agree (suc v) (held p (suc v) b) t
agree_more v p t b a e u x y = elim (cases_eq u (suc v)) as (λ _. held p (suc v) b u ≡ t u) [
  | inl q ↦ ap (held p (suc v) b) q ∙ held_at p (suc v) b ∙ sym e ∙ ap t (sym q)
  | inr n ↦ held_off p (suc v) u b n ∙ a u x (omega arith)
]

agree_less : (v : ℕ) (p t : Bits) (b : Bool) → Agree (suc v) (held p (suc v) b) t → Agree v p t
agree_less v p t b a u x y = sym (held_off p (suc v) u b (λ e. omega arith)) ∙ a u x (omega arith)

module _ (d : Bits → Bool) (n : ℕ) (local : (s t : Bits) → Agree n s t → d s ≡ d t) where
  scan : (m v : ℕ) → v + m ≡ n → (p : Bits) → Scan d n v p
  scan zero v e p = go (d p) refl
    where
      go : (b : Bool) → d p ≡ b → Scan d n v p
      go false z = inl (λ t a. local t p (λ u x y. sym (a u x (omega arith))) ∙ z)
      go true z = inr (p, (λ u x y. refl), z, λ t a k b. true≢false (sym b.high ∙ a b.at b.from (omega (arith, b.to)) ∙ b.low))
  scan (suc m) v e p = go (scan m (suc v) (omega arith) (held p (suc v) false)) (scan m (suc v) (omega arith) (held p (suc v) true))
    where
      bit : (q : Bits) (b : Bool) → Agree (suc v) (held p (suc v) b) q → q (suc v) ≡ b
      bit q b a = sym (a (suc v) (omega arith) (omega arith)) ∙ held_at p (suc v) b

      go : Scan d n (suc v) (held p (suc v) false) → Scan d n (suc v) (held p (suc v) true) → Scan d n v p
      go (inr (q, a, k, low)) other = inr (q, agree_less v p q false a, k, λ t at dt b. split t at dt b (t (suc v)) refl)
        where
          above : (t : Bits) → Agree v p t → t (suc v) ≡ true → Below n t q → ⊥
          above t at high b = side (cases_order b.at (suc v))
            where
              side : (b.at ≡ suc v) ⊎ ((b.at < suc v) ⊎ (suc v < b.at)) → ⊥
              side (inl s) = true≢false (sym b.high ∙ ap q s ∙ bit q false a)
              side (inr (inl z)) = true≢false (sym b.high ∙ sym (agree_less v p q false a b.at b.from (omega arith)) ∙ at b.at b.from (omega arith) ∙ b.low)
              side (inr (inr z)) = true≢false (sym high ∙ b.before (suc v) (omega arith) z ∙ bit q false a)

          split : (t : Bits) → Agree v p t → d t ≡ true → Below n t q → (x : Bool) → t (suc v) ≡ x → ⊥
          split t at dt b false z = low t (agree_more v p t false at z) dt b
          split t at dt b true z = above t at z b
      go (inl none) (inr (q, a, k, low)) = inr (q, agree_less v p q true a, k, λ t at dt b. split t at dt b (t (suc v)) refl)
        where
          split : (t : Bits) → Agree v p t → d t ≡ true → Below n t q → (x : Bool) → t (suc v) ≡ x → ⊥
          split t at dt b false z = true≢false (sym dt ∙ none t (agree_more v p t false at z))
          split t at dt b true z = low t (agree_more v p t true at z) dt b
      go (inl none) (inl neither) = inl (λ t at. split t at (t (suc v)) refl)
        where
          split : (t : Bits) → Agree v p t → (x : Bool) → t (suc v) ≡ x → d t ≡ false
          split t at false z = none t (agree_more v p t false at z)
          split t at true z = neither t (agree_more v p t true at z)

pub alike_or_least : (n : ℕ) (xs ys : List Rule) → ((s : Bits) → judged n xs s ≡ judged n ys s) ⊎ ((s : Bits) × Least n (judged n xs) (judged n ys) s)
alike_or_least n xs ys = go (scan d n local n 0 (omega arith) (λ _. false))
  where
    d : Bits → Bool
    d = apart (judged n xs) (judged n ys)

    local : (s t : Bits) → Agree n s t → d s ≡ d t
    local s t h = rw (judged_local n xs s t h, judged_local n ys s t h) refl

    go : Scan d n 0 (λ _. false) → ((s : Bits) → judged n xs s ≡ judged n ys s) ⊎ ((s : Bits) × Least n (judged n xs) (judged n ys) s)
    go (inl none) = inl (λ s. apart_false (judged n xs) (judged n ys) s (none s (λ u x y. absurd (omega arith))))
    go (inr (q, a, k, low)) = inr (
      q,
      record {
        differ = true_apart (judged n xs) (judged n ys) q k;
        least = λ t h b. low t (λ u x y. absurd (omega arith)) (apart_true (judged n xs) (judged n ys) t h) b;
      },
    )
