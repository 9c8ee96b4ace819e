-- Text split at a byte, each part with its place.
use Rattle.std.specs.Prelude.{ℕ, ◌+◌, cond, Option, Some, None, List, [], ◌∷◌, ◌==◌, position}
use Rattle.std.specs.List.{position_or_len}
use Rattle.text.specs.declared.fields.Field.{Field}
use Rattle.text.specs.declared.fields.Reader.{Reader}

-- a part of a text, and the index of its first byte in the rule line
pub record Part : Type 0 where
  pub place : ℕ
  pub text : List ℕ

-- how many bytes stand before the first c; all of them where there is none
abbrev pub before : ℕ → List ℕ → ℕ
before c text = position_or_len (λ x. x == c) text

-- the place of the first c, where there is one
abbrev pub place_of : ℕ → List ℕ → Option ℕ
place_of c text = position (λ x. x == c) text

-- the first part begins at p, with one byte more in front
abbrev pub grow : ℕ → ℕ → List Part → List Part
grow p x [] = []
grow p x (f ∷ fs) = record { place = p; text = x ∷ f.text } ∷ fs

-- the text, which begins at p, split at each c
abbrev pub split : ℕ → ℕ → List ℕ → List Part
split c p [] = record { place = p; text = [] } ∷ []
split c p (x ∷ xs) = cond (x == c) (record { place = p; text = [] } ∷ split c (p + 1) xs) (grow p x (split c (p + 1) xs))

-- the part that a field is
abbrev pub part : Field → Part
part f = record { place = f.place; text = f.text.now }

-- the parts that a reader has yet to give
abbrev pub left : Reader → List Part
left r = elim r.rest [ Some t ↦ split r.sep r.place t.now | None ↦ [] ]
