use Rattle.endings.proofs.Progress.{takes_one, others_nothing, nothing_left}
use Rattle.endings.proofs.Completion.{none_left}
use Rattle.endings.proofs.Orders.{as_many_done}
use Rattle.endings.proofs.laws.progress.work_decreases_law.Goals as goal

pub returns : goal.returns
returns c = record { step = takes_one; others = others_nothing; count = as_many_done; none = nothing_left; all = none_left }
