-- The requests so far were sent, and those that are left come after them.
use Rattle.std.proofs.Common.{◌≡◌, ◌++◌, length}
use Rattle.std.specs.Vec.Iter.{into_iter_items, into_iter_len}
use Rattle.workers.specs.Asking.{AreRequestsSent}
use Rattle.workers.proofs.proxy_inboxes.send_requests.Given as goal

abbrev pub invariant-loop-pending : goal.invariant-loop-pending
invariant-loop-pending g l = record {
  sent : AreRequestsSent l.yielded l.fn.senders l.senders;
  left : l.yielded ++ into_iter_items l.pending-iterator ≡ l.fn.messages.items;
  count : into_iter_len l.pending-iterator ≡ length (into_iter_items l.pending-iterator);
}
