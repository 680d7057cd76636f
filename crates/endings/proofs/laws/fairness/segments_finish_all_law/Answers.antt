use Rattle.endings.proofs.Fair.{finish_by_work}
use Rattle.endings.proofs.ByRows.{finish_by_rows}
use Rattle.endings.proofs.laws.fairness.segments_finish_all_law.Goals as goal

pub returns : goal.returns
returns c = record { work = finish_by_work; rows = finish_by_rows }
