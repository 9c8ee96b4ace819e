-- A line split at its first space.
use Rattle.std.proofs.Common.{◌≡◌, ℕ, Bool, true, false, cond, List, Some, None, Option, Result, ap, ◌∙◌}
use Rattle.script.specs.declared.command.BadCommand.{BadCommand}
use Rattle.script.specs.Commands.{Said, front, behind, spaced, halves, alone, with_rest, worded}

-- a line with a space asks for what its first word and its rest ask for
pub spaced_words : (line word rest : List ℕ) (r : Result Said BadCommand) → ◌≡◌ {A = Option (List ℕ × List ℕ)} (Some (word, rest)) (halves line) → r ≡ with_rest word rest → r ≡ worded line
spaced_words line word rest r e h = h ∙ go (spaced line) e
  where
    go : (b : Bool) → ◌≡◌ {A = Option (List ℕ × List ℕ)} (Some (word, rest)) (cond b (Some (front line, behind line)) None) → with_rest word rest ≡ cond b (with_rest (front line) (behind line)) (alone line)
    go true e = let q : ◌≡◌ {A = List ℕ × List ℕ} (word, rest) (front line, behind line) = cc in ap (λ x. with_rest x.0 x.1) q
    go false e = cc
