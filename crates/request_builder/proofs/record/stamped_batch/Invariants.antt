-- The transactions so far have their stamps in.
use Rattle.std.proofs.Common.{◌≡◌, ◌++◌, drop}
use Rattle.model.specs.Stamps.{stamped_from}
use Rattle.request_builder.proofs.record.stamped_batch.Given as goal

abbrev pub invariant-loop-number : goal.invariant-loop-number
invariant-loop-number l =
    l.stamped.items ++ stamped_from l.version l.number (drop l.number l.transactions)
    ≡ stamped_from l.version 0 l.transactions
