use Rattle.endings.proofs.Cycles.{some_fair}
use Rattle.endings.proofs.Fair.{fair_finish}
use Rattle.endings.proofs.laws.fairness.fair_schedule_finishes_law.Goals as goal

pub returns : goal.returns
returns c = record { finishes = fair_finish; there = some_fair }
