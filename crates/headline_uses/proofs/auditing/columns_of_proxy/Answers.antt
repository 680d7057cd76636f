-- An audit says that the proxy has the cells, and that they hold the definition's verdicts.
use Rattle.model.specs.Journal.{list_at}
use Rattle.locked_cluster.specs.Audits.{reached_records}
use Rattle.headline_uses.proofs.JudgedCells.{has_verdicts}
use Rattle.headline_uses.proofs.auditing.columns_of_proxy.Goals as goal

pub returns-clause-verdicts : goal.returns-clause-verdicts
returns-clause-verdicts g c = λ r there.
    let proxy = c.args.proxy.now in
    let audited = c.audit-found.ensures.audited in
    has_verdicts g.N.Naming.cells.config (reached_records proxy) r (list_at proxy.columns r) (audited.cells r there) (audited.verdicts r there)
