-- The record is begun, or the proxy refused to begin it.
use Rattle.std.proofs.Common.{◌≡◌, rules}
use Rattle.std.specs.Prelude.{Err}
use Rattle.uses.specs.Causes.{WasNotCommitted}
use Rattle.uses.proofs.CommitRefusals.{if_err}
use Rattle.uses.proofs.FinishedTwo.{holds_still}
use Rattle.uses.proofs.committing.begin.Goals as goal

pub returns-in_err-begun-clause-refused : goal.returns-in_err-begun-clause-refused
returns-in_err-begun-clause-refused g c = λ batch holds.
    let refused = c.in_err-begun.field-0.0 in
    let is : c.from_residual.result ≡ Err refused = search rules in
    if_err (WasNotCommitted g.N.Naming.cells c.args.proxy.now batch) c.from_residual.result refused is (c.in_err-begun.ensures.refused batch holds)

pub returns-clause-refused : goal.returns-clause-refused
returns-clause-refused g c = λ batch holds.
    let ticket = c.args.ticket in
    let begun = c.in_ok-begun.begun in
    c.resolve.ensures.refused batch (holds_still c.args.proxy.now ticket.row begun.row ticket.records begun.records batch c.in_ok-begun.ensures.row c.in_ok-begun.ensures.records holds)
