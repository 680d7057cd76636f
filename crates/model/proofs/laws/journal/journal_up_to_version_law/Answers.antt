use Rattle.model.proofs.Agreement.Holders.{rows_up_to_version}
use Rattle.model.proofs.laws.journal.journal_up_to_version_law.Goals as goal

pub returns : goal.returns
returns c = rows_up_to_version
