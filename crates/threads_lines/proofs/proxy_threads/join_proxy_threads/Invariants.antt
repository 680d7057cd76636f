-- The threads that are left are the last ones. The others kept their promises, and there is room for what all return.
use Rattle.std.proofs.Common.{◌≡◌, ◌+◌, ◌≤◌, length, drop}
use Rattle.std.specs.Prelude.{string_bytes}
use Rattle.std.specs.Vec.{vec_capacity}
use Rattle.std.specs.Vec.Iter.{into_iter_items, into_iter_len}
use Rattle.threads_lines.specs.Answers.{AreBatchLines}
use Rattle.threads_lines.specs.Threads.{KeepPromises}
use Rattle.threads_lines.proofs.proxy_threads.join_proxy_threads.Given as goal

abbrev pub invariant-loop-handle : goal.invariant-loop-handle
invariant-loop-handle g l = record {
  left : into_iter_items l.handle-iterator ≡ drop (length l.returned.items) l.fn.handles.items;
  all : length l.returned.items + length (into_iter_items l.handle-iterator) ≡ length l.fn.handles.items;
  count : into_iter_len l.handle-iterator ≡ length (into_iter_items l.handle-iterator);
  room : length l.fn.handles.items ≤ vec_capacity l.returned;
  kept : KeepPromises (λ p batches answered. AreBatchLines g.N.Naming.cells.config (length g.N.Naming.cells.records) p batches answered.history (string_bytes answered.text)) l.fn.handles.items (λ thread. thread.promise.number) (λ thread. thread.promise.batches.now) l.returned.items;
}
