-- The threads so far are in order, and there is room for those to come.
use Rattle.std.proofs.Common.{◌≡◌, ◌≤◌, length}
use Rattle.std.specs.Vec.{vec_capacity}
use Rattle.threads_lines.specs.Threads.{AreInOrder}
use Rattle.threads_lines.proofs.proxy_threads.start_proxy_threads.Given as goal

abbrev pub invariant-loop-number : goal.invariant-loop-number
invariant-loop-number g l = record {
  count : length l.handles.items ≡ l.number;
  room : length l.work ≤ vec_capacity l.handles;
  ordered : AreInOrder l.handles.items (λ thread. thread.promise.number) (λ thread. thread.promise.batches.now) l.work;
}
