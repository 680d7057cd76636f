use Rattle.model.proofs.Owners.MadeMoves.{met_within, last_within, one_move_more}
use Rattle.model.proofs.laws.owners.visited_resolvers_law.Goals as goal

pub returns : goal.returns
returns c = record { met = met_within; last = last_within; more = one_move_more }
