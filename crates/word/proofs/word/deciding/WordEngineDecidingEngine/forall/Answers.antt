use Rattle.word.specs.Meaning.{foralls}
use Rattle.word.proofs.word.deciding.WordEngineDecidingEngine.forall.Goals as goal

pub returns : goal.returns
returns c =
    rw (← c.in_ok-d.ensures, ← c.in_ok-a.ensures, ← c.in_ok-variable.ensures.1)
    (foralls _ _ _ _ _ _ _ _ _ _ c.in_ok-d.d.small c.in_ok-a.a.small c.in_ok-variable.variable.low c.in_ok-variable.variable.high c.in_ok-variable.ensures.0 c.word_in-word.ensures c.fixed-low.ensures c.fixed-high.ensures c.put.ensures)
