-- What a compare's place held before bears on no answer.
use Rattle.std.proofs.Common.{◌≡◌, ℕ, Bool, cond, List, length, replicate, Some, None, Ok, Err, Option, refl, sym, ap, ◌∙◌, inl, inr}
use Rattle.std.proofs.Math.Seq.{take-append_seam}
use Rattle.std.proofs.lemmas.List.{drop-replicate}
use Rattle.engine.specs.Does.{Rooms, View}
use Rattle.kind.specs.Kinds.{Reading, Lawful, over}
use Rattle.filter.specs.declared.answer.Reply.{Reply}
use Rattle.filter.specs.declared.answer.Reply.TheVariants.{Added, Committed, Verdict, Withdrawn, Alike, Differs}
use Rattle.filter.specs.declared.fault.FilterFault.{FilterFault}
use Rattle.filter.specs.Answers.{Answer, answered, engine_told}
use Rattle.filter.specs.Books.{Books}
use Rattle.filter.specs.Calls.{comparing, refusal, By}
use Rattle.filter.specs.Turns.{Turn, Went}
use Rattle.run.specs.Calls.{fronted}

-- a reply whose place, if any, is shown by its first bytes alone
abbrev pub shown_reply : ℕ → Reply → Reply
shown_reply size (Added x) = Added x
shown_reply size Committed = Committed
shown_reply size (Verdict x) = Verdict x
shown_reply size Withdrawn = Withdrawn
shown_reply size Alike = Alike
shown_reply size (Differs p) = Differs (fronted size p)

abbrev pub shown : ℕ → Answer → Answer
shown size (Ok x) = Ok (shown_reply size x)
shown size (Err f) = Err f

answered_shown : (size : ℕ) (a : Answer) → answered (shown size a) ≡ answered a
answered_shown size (Ok x) = refl
answered_shown size (Err f) = refl

told_shown : (size : ℕ) (a : Answer) → engine_told a ≡ engine_told (shown size a)
told_shown size (Ok x) = refl
told_shown size (Err f) = refl

refused_shown : (size : ℕ) (a : Answer) (f : FilterFault) → shown size a ≡ Err f → a ≡ Err f
refused_shown size (Ok x) f e = cc
refused_shown size (Err g) f e = e

-- a frame in the first bytes of a place, alone
fronted_over : (size : ℕ) (frame place : List ℕ) → length frame ≡ size → fronted size (over frame place) ≡ over frame (replicate 18 0)
fronted_over size frame place e = rw (← e) (rw (take-append_seam, drop-replicate {X = ℕ} (length frame) 18 0) refl)

module _ (R : Rooms) (k : Reading) (law : Lawful k) where
  by_shown : (o : Option FilterFault) (b : Books) (place : List ℕ) (a : Answer) → By o k b (comparing place) a → By o k b (comparing (replicate 18 0)) (shown k.size a)
  by_shown (Some f) b place a e = ap (shown k.size) e
  by_shown None b place a (inl p) = inl record { same = p.same; answer = ap (shown k.size) p.answer }
  by_shown None b place a (inr (inl p)) = inr (inl record { bits = p.bits; least = p.least; answer = ap (shown k.size) p.answer ∙ ap (λ (x : List ℕ). Ok (Differs x)) (fronted_over k.size (k.backs p.bits) place (law.sized p.bits)) })
  by_shown None b place a (inr (inr e)) = inr (inr (ap (shown k.size) e))

  went_shown : (o : Option FilterFault) (b : Books) (place : List ℕ) (e e' : View R.Shape) (a : Answer) → Went R o k b (comparing place) e e' a → Went R o k b (comparing (replicate 18 0)) e e' (shown k.size a)
  went_shown (Some f) b place e e' a w = w
  went_shown None b place e e' a w = record { known = w.known; ends = λ ops s. w.ends ops s ∙ ap (λ r. (e', r)) (told_shown k.size a) }

  -- a compare at any place answers as one at a place of zeros
  pub turn_shown : (place : List ℕ) (e : View R.Shape) (b : Books) (e' : View R.Shape) (b' : Books) (a z : Answer) → z ≡ shown k.size a → Turn R k (comparing place) e b e' b' a → Turn R k (comparing (replicate 18 0)) e b e' b' z
  turn_shown place e b e' b' a z l t = rw l record {
    same = t.same;
    right = by_shown (refusal k e.vars b (comparing place)) b place a t.right;
    drew = t.drew ∙ ap (λ (x : Bool). cond x b b) (sym (answered_shown k.size a));
    sound = t.sound;
    stays = λ f e. t.stays f (refused_shown k.size a f e);
    went = went_shown (refusal k e.vars b (comparing place)) b place e e' a t.went;
  }
