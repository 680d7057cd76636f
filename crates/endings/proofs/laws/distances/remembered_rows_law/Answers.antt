use Rattle.endings.proofs.Cycles.{some_slowest}
use Rattle.endings.proofs.Remembered.{follows_slowest, were_reached, slowest_bounds}
use Rattle.endings.proofs.laws.distances.remembered_rows_law.Goals as goal

pub returns : goal.returns
returns c = record { rows = follows_slowest; reached = were_reached; bound = slowest_bounds; some = some_slowest }
