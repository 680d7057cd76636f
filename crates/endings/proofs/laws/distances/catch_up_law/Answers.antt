use Rattle.endings.proofs.Lag.{catches_up}
use Rattle.endings.proofs.laws.distances.catch_up_law.Goals as goal

pub returns : goal.returns
returns c = catches_up
