-- Those so far were delivered, and no worker has changed.
use Rattle.std.proofs.Common.{◌≡◌, ◌++◌, length}
use Rattle.std.specs.Prelude.{All}
use Rattle.std.specs.Vec.Iter.{into_iter_items, into_iter_len}
use Rattle.threads_run.specs.Delivered.{IsDelivered}
use Rattle.threads_run.proofs.delivery.check_senders.Given as goal

abbrev pub invariant-loop-sender : goal.invariant-loop-sender
invariant-loop-sender g l = record {
  left : l.yielded ++ into_iter_items l.sender-iterator ≡ l.fn.senders.items;
  count : into_iter_len l.sender-iterator ≡ length (into_iter_items l.sender-iterator);
  same : l.workers.items ≡ l.fn.workers.items;
  delivered : All (IsDelivered l.messages l.fn.workers.items) l.yielded;
}
