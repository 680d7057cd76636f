use Rattle.model.proofs.Owners.MadeMoves.{moves_within, moves_rise}
use Rattle.model.proofs.laws.owners.moves_of_history_law.Goals as goal

pub returns : goal.returns
returns c = record { within = moves_within; rise = moves_rise }
