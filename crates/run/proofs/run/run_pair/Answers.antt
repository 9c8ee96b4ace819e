use Rattle.std.proofs.Common.{sym, ◌∙◌}
use Rattle.filter.specs.Books.{no_rules}
use Rattle.run.proofs.Together.{together}
use Rattle.run.proofs.run.run_pair.Goals as goal

pub returns-clause-together : goal.returns-clause-together
returns-clause-together g c = λ e f s. together g.K.Kind.reading g.met.K.Kind.lawful _ no_rules _ _ _ (rw s at c.in_ok-first.ensures.law) (rw (f ∙ sym e) at c.in_ok-second.ensures.law)
