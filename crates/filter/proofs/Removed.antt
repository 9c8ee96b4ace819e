-- A book without one of its rules.
use Rattle.std.specs.Prelude.{◌≡◌, ℕ, suc, ◌+◌, ◌-◌, ◌<◌, ◌≤◌, List, length, take, drop}
use Rattle.std.specs.List.{remove, copy_within}
use Rattle.std.proofs.Common.{ap, ◌∙◌, arith, take-take}
use Rattle.std.proofs.lemmas.List.{drop-take, length-drop}
use Rattle.std.proofs.lemmas.List.Edits.{take-paste}

-- the rules behind it move down by one place
pub removed : {A : Type 0} (xs : List A) (at count : ℕ) → at < count → count ≤ length xs → take (count - 1) (copy_within xs (at + 1) count at) ≡ remove (take count xs) at
removed xs at count lt le =
    let n : ℕ = count - (at + 1) in
    let short : count - 1 ≡ at + n = omega arith in
    let long : count ≡ suc at + n = omega arith in
    let next : suc at ≡ at + 1 = omega arith in
    let some : n ≤ length (drop (at + 1) xs) = omega (arith, length-drop (at + 1) xs) in
    let left : take at (take count xs) ≡ take at xs = take-take at count xs (omega arith) in
    let right : drop (suc at) (take count xs) ≡ take n (drop (at + 1) xs) = ap (λ (k : ℕ). drop (suc at) (take k xs)) long ∙ (drop-take (suc at) n xs ∙ ap (λ (k : ℕ). take n (drop k xs)) next) in
    rw (left, right) (ap (λ (k : ℕ). take k (copy_within xs (at + 1) count at)) short ∙ take-paste xs at (drop (at + 1) xs) n (omega arith) some)
