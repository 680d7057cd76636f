-- Those so far are of the proxies of the sides so far. The others are left.
use Rattle.std.proofs.Common.{◌≡◌, ◌+◌, ◌++◌, length, map}
use Rattle.std.specs.Vec.Iter.{into_iter_items, into_iter_len}
use Rattle.threads_run.specs.Delivered.{proxy_of}
use Rattle.threads_run.proofs.text.inboxes_of.Given as goal

abbrev pub invariant-loop-one : goal.invariant-loop-one
invariant-loop-one g l = record {
  all : length l.inboxes.items + length (into_iter_items l.one-iterator) ≡ length l.fn.senders.items;
  count : into_iter_len l.one-iterator ≡ length (into_iter_items l.one-iterator);
  numbers : l.inboxes.items ≡ map proxy_of l.yielded;
  left : l.yielded ++ into_iter_items l.one-iterator ≡ l.fn.senders.items;
}
