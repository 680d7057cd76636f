-- Those so far were delivered, and no worker has changed.
use Rattle.std.proofs.Common.{◌≡◌, ◌++◌, length}
use Rattle.std.specs.Prelude.{All}
use Rattle.std.specs.Vec.Iter.{into_iter_items, into_iter_len}
use Rattle.threads_run.specs.Delivered.{IsSideDelivered}
use Rattle.threads_run.proofs.delivery.check_delivered.Given as goal

abbrev pub invariant-loop-side : goal.invariant-loop-side
invariant-loop-side g l = record {
  left : l.yielded ++ into_iter_items l.side-iterator ≡ l.fn.sides.items;
  count : into_iter_len l.side-iterator ≡ length (into_iter_items l.side-iterator);
  same : l.workers.items ≡ l.fn.workers.items;
  delivered : All (IsSideDelivered g.N.Naming.cells.config l.history.records l.fn.workers.items) l.yielded;
}
