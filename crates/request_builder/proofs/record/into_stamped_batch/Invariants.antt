-- The transactions so far have their stamps in, and the next one has the number of these.
use Rattle.std.proofs.Common.{◌≡◌, ◌++◌, length}
use Rattle.std.specs.Vec.Iter.{into_iter_items}
use Rattle.model.specs.Stamps.{stamped_from}
use Rattle.request_builder.proofs.record.into_stamped_batch.Given as goal

abbrev pub invariant-loop-transaction : goal.invariant-loop-transaction
invariant-loop-transaction l =
    l.stamped.items ++ stamped_from l.version (length l.stamped.items) (into_iter_items l.transaction-iterator)
    ≡ stamped_from l.version 0 l.fn.transactions
