-- There are as many rows as turns of the loop so far.
use Rattle.std.proofs.Common.{[]}
use Rattle.inboxes.specs.Blanks.{AreBlankSenders}
use Rattle.inboxes.proofs.blank_inboxes.new_blank_senders.Given as goal

abbrev pub invariant-loop-proxy : goal.invariant-loop-proxy
invariant-loop-proxy g l = AreBlankSenders l.proxy [] l.rows.items
