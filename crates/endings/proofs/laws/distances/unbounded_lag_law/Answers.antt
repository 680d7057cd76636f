use Rattle.endings.proofs.Lag.{any_rows_apart}
use Rattle.endings.proofs.laws.distances.unbounded_lag_law.Goals as goal

pub returns : goal.returns
returns c = any_rows_apart
