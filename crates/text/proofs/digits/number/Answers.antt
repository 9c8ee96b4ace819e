use Rattle.std.proofs.Common.{◌≡◌, ◌+◌, ◌*◌, ap, sym, ◌∙◌, Some, arith, rules}
use Rattle.text.specs.Numerals.{capped}
use Rattle.text.proofs.Numbers.{capped_more, capped_end}
use Rattle.text.proofs.digits.number.Goals as goal

pub loop-c-preserved : goal.loop-c-preserved
loop-c-preserved g c =
    let w : c.saturating_add-value.result ≡ capped (capped (c.loop-c.value * g.D.Digits.BASE) + c.in_ok-digit.digit) = search rules in
    (capped_more _ _ _ _ _ _ _ c.loop-c-test.true (search rules) w ∙ c.loop-c.invariant.0, omega (arith, w))

pub returns : goal.returns
returns g c =
    let h = c.loop-c.invariant.1 in
    let v : capped c.loop-c.value ≡ c.loop-c.value = omega arith in
    ap Some (sym v) ∙ capped_end _ _ _ _ _ c.loop-c-test.false ∙ c.loop-c.invariant.0
