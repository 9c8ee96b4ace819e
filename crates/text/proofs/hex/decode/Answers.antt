use Rattle.std.proofs.Common.{ℕ, ◌-◌, List, length, take, drop, ap, ◌∙◌, rules}
use Rattle.text.specs.Hexadecimal.{hex_bytes}
use Rattle.text.proofs.Decoding.{after, pair_more}
use Rattle.text.proofs.hex.decode.Goals as goal

pub loop-rest-preserved : goal.loop-rest-preserved
loop-rest-preserved c =
    ap (λ (bs : List ℕ). after bs (hex_bytes (take (length c.loop-rest.rest.now - 2) (drop 2 c.loop-rest.rest.now)))) c.in_ok-push.ensures.items
    ∙ pair_more c.loop-rest.rest.now _ c.in-Some.b (search rules) c.in-Some.ensures
    ∙ c.loop-rest.invariant
