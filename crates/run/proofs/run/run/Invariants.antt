use Rattle.std.proofs.Common.{take, vec_items}
use Rattle.filter.specs.Books.{no_rules}
use Rattle.run.proofs.Runs.{Leads}
use Rattle.run.proofs.run.run.Given as goal

abbrev pub invariant-loop-call : goal.invariant-loop-call
invariant-loop-call g l =
    let view = g.E.Engine.view in
    Leads g.E.Engine.rooms g.K.Kind.reading (view l.initial.filter.engine) no_rules (take l.call-index l.calls) (vec_items l.answers) (view l.filter.engine) l.filter.books
