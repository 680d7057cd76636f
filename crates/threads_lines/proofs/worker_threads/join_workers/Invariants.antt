-- What is left of workers and the threads to be joined are as many as there were threads, and there is room.
use Rattle.std.proofs.Common.{◌≡◌, ◌+◌, ◌≤◌, length}
use Rattle.std.specs.Vec.{vec_capacity}
use Rattle.std.specs.Vec.Iter.{into_iter_items, into_iter_len}
use Rattle.threads_lines.proofs.worker_threads.join_workers.Given as goal

abbrev pub invariant-loop-handle : goal.invariant-loop-handle
invariant-loop-handle g l =
    let waiting = into_iter_items l.handle-iterator in record {
      all : length l.left.items + length waiting ≡ length l.fn.handles.items;
      room : length l.fn.handles.items ≤ vec_capacity l.left;
      count : into_iter_len l.handle-iterator ≡ length waiting;
    }
