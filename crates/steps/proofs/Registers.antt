-- Meanings of all registers, taken one by one.
use Rattle.std.proofs.Common.{◌≡◌, ℕ, zero, suc, ◌<◌, arith}
use mathlib.Core.Path.{fun_ext}
use Rattle.engine.specs.Ops.{Regs}

-- meanings that are the same at registers 0 to 11, and past them
pub same_regs : {f g : Regs} → f 0 ≡ g 0 → f 1 ≡ g 1 → f 2 ≡ g 2 → f 3 ≡ g 3 → f 4 ≡ g 4 → f 5 ≡ g 5 → f 6 ≡ g 6 → f 7 ≡ g 7 → f 8 ≡ g 8 → f 9 ≡ g 9 → f 10 ≡ g 10 → f 11 ≡ g 11 → ((x : ℕ) → 11 < x → f x ≡ g x) → f ≡ g
same_regs {f = f} {g = g} a b c d e h i j k l m n past = fun_ext go
  where
    go : (x : ℕ) → f x ≡ g x
    go zero = a
    go (suc zero) = b
    go (suc (suc zero)) = c
    go (suc (suc (suc zero))) = d
    go (suc (suc (suc (suc zero)))) = e
    go (suc (suc (suc (suc (suc zero))))) = h
    go (suc (suc (suc (suc (suc (suc zero)))))) = i
    go (suc (suc (suc (suc (suc (suc (suc zero))))))) = j
    go (suc (suc (suc (suc (suc (suc (suc (suc zero)))))))) = k
    go (suc (suc (suc (suc (suc (suc (suc (suc (suc zero))))))))) = l
    go (suc (suc (suc (suc (suc (suc (suc (suc (suc (suc zero)))))))))) = m
    go (suc (suc (suc (suc (suc (suc (suc (suc (suc (suc (suc zero))))))))))) = n
    go (suc (suc (suc (suc (suc (suc (suc (suc (suc (suc (suc (suc y)))))))))))) = past (suc (suc (suc (suc (suc (suc (suc (suc (suc (suc (suc (suc y)))))))))))) (omega arith)
