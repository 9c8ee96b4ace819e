-- Worked examples with two variables.
use Rattle.std.specs.Prelude.{◌≡◌, [], ◌∷◌, pos, negsuc}
use Rattle.diagram.specs.Diagrams.{Diagram, top, bottom, node, Made}
use Rattle.diagram.specs.Rules.{reduce, negate}
use Rattle.diagram.specs.Meet.{meet}
use Rattle.diagram.specs.Fix.{literal, forall}
use Rattle.diagram.specs.Meanings.{Twins, Hidden}

-- variable 2, (2, −τ, τ, τ)
abbrev pub two : Diagram
two = node (pos 2) bottom top top

-- its complement, (2, τ, −τ, τ)
abbrev pub Q : Diagram
Q = node (pos 2) top bottom top

-- variable 1 and not variable 2, (1, −τ, τ, Q)
abbrev pub S : Diagram
S = node (pos 1) bottom top Q

-- the complement of S, (−1, −τ, τ, Q)
abbrev pub not_S : Diagram
not_S = node (negsuc 0) bottom top Q

-- the variables agree, (−1, (2, −τ, τ, τ), Q, τ)
abbrev pub agree : Diagram
agree = node (negsuc 0) two Q top

-- d is the result and the one diagram formed
abbrev pub alone : Diagram → Made
alone d = record { it = d; formed = d ∷ [] }

-- what reduction, negation, conjunction and forall make of them
abbrev pub Examples : Type 0
Examples =
    (literal 2 ≡ alone two)
    × (negate two ≡ alone Q)
    -- (−1, Q, Q, Q) goes by rules 7, 8 and 3 to ¬Q, and that by rule 9 to (2, −τ, τ, τ)
    × (reduce (negsuc 0) Q Q Q ≡ alone two)
    × (meet 2 (literal 1).it Q ≡ alone S)
    × (negate S ≡ alone not_S)
    × ((meet 2 (negate S).it (negate (node (pos 1) top bottom two)).it).it ≡ agree)
    × ((forall 2 1 agree).it ≡ bottom)
    -- not_S and (1, τ, (2, −τ, τ, τ), τ) mean the same
    × Twins 2 not_S (node (pos 1) top two top)
    -- (1, (2, −τ, τ, τ), −τ, Q) is empty
    × Hidden 2 (node (pos 1) two bottom Q)
