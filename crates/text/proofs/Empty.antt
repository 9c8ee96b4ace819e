-- The first empty field.
use Rattle.std.proofs.Common.{◌≡◌, true, false, cond, eqb, List, [], ◌∷◌, length, find, ◌==◌, Some, refl}
use Rattle.std.specs.Option.{option_map}
use Rattle.text.specs.Split.{Part}
use Rattle.text.specs.Lines.{first_empty}

-- the place of the first empty part, as the library's `find` gives it
pub found_empty : (ps : List Part) → option_map (λ p. p.place) (find (λ p. length p.text == 0) ps) ≡ first_empty ps
found_empty [] = refl
found_empty (p ∷ ps) = elim (eqb (length p.text) 0) as (λ b. option_map (λ (q : Part). q.place) (cond b (Some p) (find (λ q. length q.text == 0) ps)) ≡ cond b (Some p.place) (first_empty ps)) [
  | true ↦ refl
  | false ↦ found_empty ps
]
