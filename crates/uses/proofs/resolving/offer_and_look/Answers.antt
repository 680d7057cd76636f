-- The reply that was offered stands in its cell, and a refused request leaves what was there.
use Rattle.uses.specs.Resolving.{KeepsAll}
use Rattle.uses.proofs.RepliesInCells.{keeps_all, on_err, replies}
use Rattle.uses.proofs.resolving.offer_and_look.Goals as goal

pub returns-clause-replied : goal.returns-clause-replied
returns-clause-replied g c = replies g.N.Naming.cells.config c.args.guard.now c.args.request c.offer.new.self c.in_ok-noted.noted c.value-reply.ensures.kept c.in_ok-noted.ensures.offered

pub returns-in_err-noted-clause-kept : goal.returns-in_err-noted-clause-kept
returns-in_err-noted-clause-kept g c =
    on_err (KeepsAll c.args.guard.now c.offer.new.self) c.from_residual.result
    (keeps_all c.args.guard.now c.offer.new.self c.in_err-noted.field-0.0.refusal c.in_err-noted.ensures.left)
