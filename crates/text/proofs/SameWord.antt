-- What `==` says of two texts.
use Rattle.std.proofs.Common.{◌≡◌, ℕ, Bool, List, ◌==◌}
use Rattle.std.specs.Str.{bytes_eq}
use Rattle.std.proofs.lemmas.Bool.Decides.{Decides-eqb, same_from_decides}
use Rattle.std.proofs.lemmas.Slice.Eq.{slice_eq-Decides, bytes_eq-Decides}
use lib.Pointwise.{pointwise}

-- the test of each pair of bytes is the test of the texts
pub same_word : (xs ys : List ℕ) (r : Bool) → r ≡ pointwise (λ x y. x == y) xs ys → r ≡ bytes_eq xs ys
same_word xs ys r e = same_from_decides _ _ (slice_eq-Decides Decides-eqb xs ys r e) (bytes_eq-Decides xs ys)
