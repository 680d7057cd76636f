-- The fault says why the batch was not committed.
use Rattle.std.proofs.Common.{sym, subst}
use Rattle.uses.specs.Causes.{WasNotCommitted}
use Rattle.uses.specs.declared.refused.Refused.{Refused}
use Rattle.uses.proofs.CommitRefusals.{not_committed}
use Rattle.uses.proofs.whole_cluster.commit_batch.Goals as goal

pub returns-in-Err-clause-refused : goal.returns-in-Err-clause-refused
returns-in-Err-clause-refused g c =
    let cells = g.N.Naming.cells in
    subst (λ (refused : Refused). WasNotCommitted cells c.args.proxy.now c.args.batch refused) (sym c.by.ensures.cause)
    (not_committed cells (g.A.Asking.takes c.args.asking.now) c.args.proxy.now c.args.batch c.in-Err.fault c.by.ensures.kept c.in-Err.ensures)
