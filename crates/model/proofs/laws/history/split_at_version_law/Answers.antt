use Rattle.model.proofs.History.Rows.{split_at_row}
use Rattle.model.proofs.laws.history.split_at_version_law.Goals as goal

pub returns : goal.returns
returns c = split_at_row
