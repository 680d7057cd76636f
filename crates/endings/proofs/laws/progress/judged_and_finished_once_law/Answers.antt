use Rattle.endings.proofs.Once.{done_once}
use Rattle.endings.proofs.laws.progress.judged_and_finished_once_law.Goals as goal

pub returns : goal.returns
returns c = done_once
