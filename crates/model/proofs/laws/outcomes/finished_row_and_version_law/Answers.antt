use Rattle.model.proofs.History.Rows.{finished_row, finished_version_is}
use Rattle.model.proofs.laws.outcomes.finished_row_and_version_law.Goals as goal

pub returns : goal.returns
returns c = record { row = finished_row; version = finished_version_is }
