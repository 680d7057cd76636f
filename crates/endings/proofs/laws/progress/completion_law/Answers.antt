use Rattle.endings.proofs.Completion.{can_finish, run_can_finish}
use Rattle.endings.proofs.laws.progress.completion_law.Goals as goal

pub returns : goal.returns
returns c = record { finish = can_finish; run = run_can_finish }
