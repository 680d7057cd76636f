use Rattle.model.proofs.History.Chain.{up_to_front_are, rows_up_to_front, rows_up_to_record, rows_up_to_none, below_front, one_row}
use Rattle.model.proofs.laws.history.version_names_row_law.Goals as goal

pub returns : goal.returns
returns c = record { first = up_to_front_are; front = rows_up_to_front; row = rows_up_to_record; none = rows_up_to_none; below = below_front; one = one_row }
