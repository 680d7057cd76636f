use Rattle.model.proofs.Owners.MadeMoves.{met_with_newer, never_back_kept}
use Rattle.model.proofs.laws.owners.trimming_keeps_walks_law.Goals as goal

pub returns : goal.returns
returns c = record { met = met_with_newer; dates = never_back_kept }
