use Rattle.endings.proofs.Batches.{unfinished_finish, same_batches}
use Rattle.endings.proofs.laws.orders.batches_finish_alike_law.Goals as goal

pub returns : goal.returns
returns c = record { unfinished = unfinished_finish; same = same_batches }
