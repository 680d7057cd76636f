use Rattle.endings.proofs.Rounds.{rounds_fair, rounds_by_work, rounds_by_rows}
use Rattle.endings.proofs.laws.fairness.rounds_finish_all_law.Goals as goal

pub returns : goal.returns
returns c = record { fair = rounds_fair; work = rounds_by_work; rows = rounds_by_rows }
