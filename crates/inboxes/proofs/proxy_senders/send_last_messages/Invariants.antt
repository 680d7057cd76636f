-- The last message was sent through the first ends.
use Rattle.inboxes.proofs.Sent.{AreSentTo}
use Rattle.inboxes.specs.MessageViews.{end_view}
use Rattle.inboxes.proofs.proxy_senders.send_last_messages.Given as goal

abbrev pub invariant-loop-resolver : goal.invariant-loop-resolver
invariant-loop-resolver g l = AreSentTo l.resolver (end_view l.proxy) l.fn.ends.items l.ends.items
