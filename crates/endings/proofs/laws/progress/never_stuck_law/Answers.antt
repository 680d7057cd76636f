use Rattle.endings.proofs.Progress.{next_is_judged, waits, not_stuck}
use Rattle.endings.proofs.laws.progress.never_stuck_law.Goals as goal

pub returns : goal.returns
returns c = record { next = next_is_judged; waits = waits; stuck = not_stuck }
