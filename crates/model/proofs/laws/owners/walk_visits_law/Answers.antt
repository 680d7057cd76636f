use Rattle.model.proofs.Owners.Walks.{met_iff, met_without_front, without_front_again}
use Rattle.model.proofs.laws.owners.walk_visits_law.Goals as goal

pub returns-clause-met : goal.returns-clause-met
returns-clause-met c = met_iff

pub returns-clause-front : goal.returns-clause-front
returns-clause-front c = λ bound oldest r list. met_without_front bound oldest r 0 list

pub returns-clause-again : goal.returns-clause-again
returns-clause-again c = without_front_again
