use Rattle.model.proofs.Owners.Asking.{standing_asks, asks_one_more, forgetting_asks, asked_readers, asked_writers}
use Rattle.model.proofs.laws.owners.map_asks_as_moves_law.Goals as goal

pub returns : goal.returns
returns c = record { stands = standing_asks; moved = asks_one_more; forgotten = forgetting_asks; reads = asked_readers; writes = asked_writers }
