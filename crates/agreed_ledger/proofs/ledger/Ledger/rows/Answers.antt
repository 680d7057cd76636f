use Rattle.agreed_ledger.proofs.CellLaws.{all_have_rows}
use Rattle.agreed_ledger.proofs.ledger.Ledger.rows.Goals as goal

pub returns-clause-columns : goal.returns-clause-columns
returns-clause-columns g c = all_have_rows g.N.Naming.cells c.config-config.ensures.kept
