-- The variables that bytes spell.
use Rattle.std.proofs.Common.{◌≡◌, ℕ, ◌-◌, ◌/◌, ◌%◌, ◌^◌, ◌≤◌, false, eqb, List, length, ap, ◌∙◌}
use native.Mathlib.Nat.{zero-div}
use lib.ListN.{get_or-eq_default}
use Rattle.engine.specs.Ops.{bit_at}

-- a variable past the last byte is 0
pub bit_past : (bytes : List ℕ) (v : ℕ) → length bytes ≤ (v - 1) / 8 → bit_at bytes v ≡ false
bit_past bytes v h =
    ap (λ (b : ℕ). eqb ((b / 2 ^ (7 - (v - 1) % 8)) % 2) 1) (get_or-eq_default bytes 0 {n = (v - 1) / 8} h)
    ∙ ap (λ (b : ℕ). eqb (b % 2) 1) (zero-div (2 ^ (7 - (v - 1) % 8)))
