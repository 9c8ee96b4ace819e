use Rattle.std.proofs.Common.{◌≡◌, ℕ, ◌-◌, ◌*◌, ◌%◌, ◌^◌, arith}
use Rattle.std.proofs.lemmas.Nat.{one_shl, pow_below}
use Rattle.word.proofs.variable.Variable.step.Goals as goal

pub returns : goal.returns
returns c =
    let k : ℕ = c.args.self.n - c.args.self.v in
    let e : (1 * 2 ^ k) % 2 ^ 8 ≡ 2 ^ k = one_shl k 8 (omega arith) in
    record { exact = e; few = omega (arith, pow_below k 6 (omega arith)) }
