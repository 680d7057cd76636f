use Rattle.model.proofs.Agreement.Columns.{cells_by_column, column_says}
use Rattle.model.proofs.laws.agreement.column_verdicts_law.Goals as goal

pub returns : goal.returns
returns c = record { cells = cells_by_column; known = column_says }
