-- A Close was sent through the first ends.
use Rattle.std.proofs.Common.{◌≡◌}
use Rattle.inboxes.proofs.Sent.{AreSentTo}
use Rattle.inboxes.specs.MessageViews.{close_view}
use Rattle.workers.proofs.proxy_inboxes.send_closes.Given as goal

abbrev pub invariant-loop-resolver : goal.invariant-loop-resolver
invariant-loop-resolver g l = record {
  proxy : l.senders.proxy ≡ l.fn.senders.proxy;
  sent : AreSentTo l.resolver (close_view l.fn.senders.proxy) l.fn.senders.ends l.senders.ends;
}
