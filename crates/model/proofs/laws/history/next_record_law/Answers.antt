use Rattle.model.proofs.History.Chain.{next_follows_moves}
use Rattle.model.proofs.laws.history.next_record_law.Goals as goal

pub returns : goal.returns
returns c = next_follows_moves
