-- How lists of rules decide and judge frames, by tests and by relations.
use Rattle.std.proofs.Common.{◌≡◌, ℕ, zero, suc, Bool, false, cond, List, [], ◌∷◌, sym, refl, ap, ◌∙◌, arith}
use Rattle.std.proofs.lemmas.Bool.{cond_both, false_from_ne_true}
use Rattle.std.proofs.lemmas.Bool.Decides.{not_from_Decides}
use Rattle.engine.specs.Ops.{Bits, Agree}
use Rattle.kind.specs.declared.rule.Rule.{Rule}
use Rattle.kind.specs.declared.rule.Action.{Action}
use Rattle.kind.specs.declared.rule.Action.TheVariants.{Block, Pass}
use Rattle.kind.specs.Rules.{Matches, matches, judged, blocks}
use Rattle.kind.proofs.Matched.{matching}
use Rattle.steps.specs.Meaning.{Decides as DecidesBy}
use Rattle.filter.specs.Books.{Books}
use Rattle.filter.specs.Calls.{verdict}
use Rattle.run.specs.Law.{Decides, Judges, JudgedOnce, SameAt}

missed : (n : ℕ) (r : Rule) (s : Bits) → matches n r s ≡ false → Matches n r s → ⊥
missed n r s = not_from_Decides (matches n r s) (matching n r s)

not_matched : (n : ℕ) (r : Rule) (s : Bits) → (Matches n r s → ⊥) → matches n r s ≡ false
not_matched n r s h = false_from_ne_true (matches n r s) (λ e. h ((matching n r s).0 e))

pub decides_so : (n : ℕ) (rs : List Rule) (i : ℕ) (s : Bits) → DecidesBy n rs i s → Decides n rs i s
decides_so n [] i s d = d
decides_so n (r ∷ rs) zero s d = (matching n r s).0 d
decides_so n (r ∷ rs) (suc i) s d = (missed n r s d.0, decides_so n rs i s d.1)

pub so_decides : (n : ℕ) (rs : List Rule) (i : ℕ) (s : Bits) → Decides n rs i s → DecidesBy n rs i s
so_decides n [] i s d = d
so_decides n (r ∷ rs) zero s d = (matching n r s).1 d
so_decides n (r ∷ rs) (suc i) s d = (not_matched n r s d.0, so_decides n rs i s d.1)

-- only bits 1 to n matter
matches_local : (n : ℕ) (r : Rule) (s t : Bits) → Agree n s t → Matches n r s → Matches n r t
matches_local n r s t a m v l h c = cc (a v l h, m v l h c)

pub decides_local : (n : ℕ) (rs : List Rule) (i : ℕ) (s t : Bits) → Agree n s t → Decides n rs i s → Decides n rs i t
decides_local n [] i s t a d = d
decides_local n (r ∷ rs) zero s t a d = matches_local n r s t a d
decides_local n (r ∷ rs) (suc i) s t a d = (λ m. d.0 (matches_local n r t s (λ v l h. sym (a v l h)) m), decides_local n rs i s t a d.1)

named : (x : Action) → cond (blocks x) Block Pass ≡ x
named Block = refl
named Pass = refl

-- a list judges as its verdict says
pub judges : (n : ℕ) (rs : List Rule) (s : Bits) → Judges n rs s (verdict n rs s)
judges n [] s = refl
judges n (r ∷ rs) s = (λ m. rw ((matching n r s).1 m) (named r.action), λ m. rw (not_matched n r s m) (judges n rs s))

-- and in no other way
pub judges_only : (n : ℕ) (rs : List Rule) (s : Bits) (x : Action) → Judges n rs s x → x ≡ verdict n rs s
judges_only n [] s x j = j
judges_only n (r ∷ rs) s x j =
    cond_both (matches n r s) (blocks r.action) (judged n rs s) (λ (b : Bool). x ≡ cond b Block Pass) (λ e. j.0 ((matching n r s).0 e) ∙ sym (named r.action)) (λ e. judges_only n rs s x (j.1 (missed n r s e)))

pub judged_once : JudgedOnce
judged_once n rs s = (verdict n rs s, judges n rs s, judges_only n rs s)

verdict_same : (a b : Bool) → cond a Block Pass ≡ cond b Block Pass → a ≡ b
verdict_same a b e = grind arith

-- books that block alike judge alike, and the other way round
pub same_at : (n : ℕ) (b : Books) (s : Bits) → judged n b.live s ≡ judged n b.draft s → SameAt n b s
same_at n b s e x y p q = judges_only n b.live s x p ∙ ap (λ (z : Bool). cond z Block Pass) e ∙ sym (judges_only n b.draft s y q)

pub at_same : (n : ℕ) (b : Books) (s : Bits) → SameAt n b s → judged n b.live s ≡ judged n b.draft s
at_same n b s h = verdict_same (judged n b.live s) (judged n b.draft s) (h _ _ (judges n b.live s) (judges n b.draft s))
