-- The phase that failed first returned what holds the batch.
use Rattle.std.proofs.Common.{List, subst}
use Rattle.std.specs.Prelude.{IfErr}
use Rattle.model.specs.Stamps.{AdmittedTransaction}
use Rattle.locked_cluster.specs.Commits.{HandsBack}
use Rattle.uses.specs.Causes.{WasNotCommitted}
use Rattle.uses.proofs.committing.commit_and_resume_once.Goals as goal

pub returns-in-Err-Sequencing-clause-refused : goal.returns-in-Err-Sequencing-clause-refused
returns-in-Err-Sequencing-clause-refused g c =
    let cells = g.N.Naming.cells in
    let back = subst (HandsBack cells (g.A.Asking.takes c.args.asking.now) c.args.proxy.now c.args.batch) c.in-Err-Sequencing.field-0-is c.in-Err-Sequencing.ensures in
    subst (λ (batch : List AdmittedTransaction). IfErr c.commit_once.result (WasNotCommitted cells c.args.proxy.now batch)) back.0 c.commit_once.ensures.refused

pub returns-in-Err-Beginning-clause-refused : goal.returns-in-Err-Beginning-clause-refused
returns-in-Err-Beginning-clause-refused g c =
    let back = subst (HandsBack g.N.Naming.cells (g.A.Asking.takes c.args.asking.now) c.args.proxy.now c.args.batch) c.in-Err-Beginning.field-0-is c.in-Err-Beginning.ensures in
    c.begin.ensures.refused c.args.batch back.0

pub returns-in-Err-Resolving-clause-refused : goal.returns-in-Err-Resolving-clause-refused
returns-in-Err-Resolving-clause-refused g c =
    let back = subst (HandsBack g.N.Naming.cells (g.A.Asking.takes c.args.asking.now) c.args.proxy.now c.args.batch) c.in-Err-Resolving.field-0-is c.in-Err-Resolving.ensures in
    c.resolve.ensures.refused c.args.batch back.0

pub returns-in-Err-Finishing-clause-refused : goal.returns-in-Err-Finishing-clause-refused
returns-in-Err-Finishing-clause-refused g c =
    let back = subst (HandsBack g.N.Naming.cells (g.A.Asking.takes c.args.asking.now) c.args.proxy.now c.args.batch) c.in-Err-Finishing.field-0-is c.in-Err-Finishing.ensures in
    c.finish.ensures.refused c.args.batch back.0
