-- Those so far are of the proxies of the inboxes so far. The others are left, and there is room for them.
use Rattle.std.proofs.Common.{◌≡◌, ◌+◌, ◌++◌, ◌≤◌, length, map}
use Rattle.std.specs.Vec.{vec_capacity}
use Rattle.std.specs.Vec.Iter.{into_iter_items, into_iter_len}
use Rattle.threads_run.specs.Delivered.{proxy_of}
use Rattle.threads_run.proofs.delivery.end_each.Given as goal

abbrev pub invariant-loop-one : goal.invariant-loop-one
invariant-loop-one g l = record {
  all : length l.sides.items + length (into_iter_items l.one-iterator) ≡ length l.fn.inboxes.items;
  room : length l.fn.inboxes.items ≤ vec_capacity l.sides;
  count : into_iter_len l.one-iterator ≡ length (into_iter_items l.one-iterator);
  numbers : map proxy_of l.sides.items ++ into_iter_items l.one-iterator ≡ l.fn.inboxes.items;
}
