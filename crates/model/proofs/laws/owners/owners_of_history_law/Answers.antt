use Rattle.model.proofs.Owners.Asked.{some_last}
use Rattle.model.proofs.Owners.Moves.{grows, grown_moves, owners_never_back}
use Rattle.model.proofs.Owners.Walks.{met_without_front}
use Rattle.model.specs.Owners.{owners}
use Rattle.model.specs.Records.{oldest}
use Rattle.model.proofs.laws.owners.owners_of_history_law.Goals as goal

pub returns-clause-moves : goal.returns-clause-moves
returns-clause-moves c = λ config h i j earlier later history less is_earlier is_later. grown_moves earlier later (grows config h i j earlier later history less is_earlier is_later)

pub returns-clause-dates : goal.returns-clause-dates
returns-clause-dates c = owners_never_back

pub returns-clause-front : goal.returns-clause-front
returns-clause-front c = λ config h i rec key snapshot r history is. met_without_front snapshot (oldest config rec) r 0 (owners rec.moves key) (owners_never_back config h i rec key history is)

pub returns-clause-last : goal.returns-clause-last
returns-clause-last c = λ config h i rec key limits history is. let l = some_last config h i rec key limits.resolvers.0 history is in (l.resolver, l.there, l.last)
