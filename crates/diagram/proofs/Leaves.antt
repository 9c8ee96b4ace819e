-- Conjunction with a leaf, and small facts that callers need.
use Rattle.std.proofs.Common.{◌≡◌, ℕ, true, refl, ◌∙◌}
use Rattle.std.proofs.lemmas.Bool.{false≢true}
use Rattle.diagram.specs.Diagrams.{Diagram, top, bottom, node, level, ordered, has}
use Rattle.diagram.specs.Rules.{listed}
use Rattle.diagram.specs.Meet.{meet, meet_step, done}
use Rattle.diagram.proofs.Same.{has_only}
use Rattle.diagram.proofs.Laws.{meet_law}

pub meet_top : (n : ℕ) (d : Diagram) → ordered n d ≡ true → meet n d top ≡ done d
meet_top n d o = meet_law n d top o (unfold ordered in refl) ∙ go d
  where
    go : (d : Diagram) → meet_step (meet n) d top ≡ done d
    go top = refl
    go bottom = refl
    go (node x a b c) = refl

pub meet_bottom : (n : ℕ) (d : Diagram) → ordered n d ≡ true → meet n d bottom ≡ done bottom
meet_bottom n d o = meet_law n d bottom o (unfold ordered in refl) ∙ go d
  where
    go : (d : Diagram) → meet_step (meet n) d bottom ≡ done bottom
    go top = refl
    go bottom = refl
    go (node x a b c) = refl

pub top_meet : (n : ℕ) (d : Diagram) → ordered n d ≡ true → meet n top d ≡ done d
top_meet n d o = meet_law n top d (unfold ordered in refl) o ∙ go d
  where
    go : (d : Diagram) → meet_step (meet n) top d ≡ done d
    go top = refl
    go bottom = refl
    go (node x a b c) = refl

pub bottom_meet : (n : ℕ) (d : Diagram) → ordered n d ≡ true → meet n bottom d ≡ done bottom
bottom_meet n d o = meet_law n bottom d (unfold ordered in refl) o ∙ go d
  where
    go : (d : Diagram) → meet_step (meet n) bottom d ≡ done bottom
    go top = refl
    go bottom = refl
    go (node x a b c) = refl

pub listed_only : (e d : Diagram) → has (listed e) d ≡ true → e ≡ d
unfolding has
listed_only top d g = absurd (false≢true g)
listed_only bottom d g = absurd (false≢true g)
listed_only (node x a b c) d g = has_only (node x a b c) d g

pub level_cong : {n n' : ℕ} {a a' : Diagram} → n ≡ n' → a ≡ a' → level n a ≡ level n' a'
level_cong en ea = λ i. level (en i) (ea i)
