-- The threads so far and the ends that are left are as many as there were ends, and there is room for all threads.
use Rattle.std.proofs.Common.{◌≡◌, ◌+◌, ◌≤◌, length}
use Rattle.std.specs.List.{All}
use Rattle.std.specs.Vec.{vec_capacity}
use Rattle.std.specs.Vec.Iter.{into_iter_items, into_iter_len}
use Rattle.threads_lines.proofs.worker_threads.start_workers.Given as goal

abbrev pub invariant-loop-end : goal.invariant-loop-end
invariant-loop-end g l =
    let waiting = into_iter_items l.end-iterator in record {
      all : length l.handles.items + length waiting ≡ length l.fn.ends.items;
      room : length l.fn.ends.items ≤ vec_capacity l.handles;
      count : into_iter_len l.end-iterator ≡ length waiting;
      resolvers : All (g.S.ServesInbox.can_serve l.serving) waiting;
    }
