-- The reply that was waited for stands in its cell.
use Rattle.uses.proofs.RepliesInCells.{stands}
use Rattle.uses.proofs.resolving.resolve_and_look.Goals as goal

pub returns-clause-shown : goal.returns-clause-shown
returns-clause-shown g c = stands g.N.Naming.cells.config c.args.request c.in_ok-noted.noted c.in_ok-noted.guard c.value-reply.ensures.kept c.in_ok-noted.ensures.shown
