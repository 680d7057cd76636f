-- A resolver refused the record, or the proxy refused to finish it.
use Rattle.std.proofs.Common.{inl, inr}
use Rattle.uses.proofs.FinishedTwo.{holds_still}
use Rattle.uses.proofs.committing.resolve.Goals as goal

pub returns-in-Ok-clause-refused : goal.returns-in-Ok-clause-refused
returns-in-Ok-clause-refused g c = λ batch holds.
    let begun = c.args.begun in
    let ready = c.in-Ok.ready in
    c.finish.ensures.refused batch (holds_still c.args.proxy.now begun.row ready.row begun.records ready.records batch c.in-Ok.ensures.row c.in-Ok.ensures.records holds)

pub returns-in-Err-clause-refused : goal.returns-in-Err-clause-refused
returns-in-Err-clause-refused g c = λ batch holds. inr (inl (c.args.begun, g.A.Asking.takes c.args.asking.now, c.row-row.ensures.kept, holds, c.in-Err.ensures.refused))
