-- The first proxies have an end of the inbox.
use Rattle.std.proofs.Common.{◌≡◌}
use Rattle.inboxes.proofs.Rows.{AreRowsTo}
use Rattle.inboxes.proofs.blank_inboxes.add_inbox.Given as goal

abbrev pub invariant-loop-proxy : goal.invariant-loop-proxy
invariant-loop-proxy g l = record {
  rows : AreRowsTo l.proxy g.N.Naming.cells.config.proxies l.fn.ends.items l.inbox.place l.rows.items;
  made : l.inbox.made ≡ l.proxy;
}
