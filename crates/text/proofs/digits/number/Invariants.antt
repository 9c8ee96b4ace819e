use Rattle.std.proofs.Common.{◌≡◌, ◌^◌, ◌<◌, drop}
use Rattle.text.proofs.Numbers.{capped_after}
use Rattle.text.proofs.digits.number.Given as goal

abbrev pub invariant-loop-c : goal.invariant-loop-c
invariant-loop-c g l = (capped_after g.D.Digits.value g.D.Digits.BASE l.value (drop l.c-index l.text) ≡ capped_after g.D.Digits.value g.D.Digits.BASE 0 l.text) × (l.value < 2 ^ 64)
