-- There are as many inboxes as turns of the loop so far, and each proxy has an end of each.
use Rattle.std.proofs.Common.{◌≡◌, length}
use Rattle.inboxes.specs.Blanks.{AreBlankSenders}
use Rattle.inboxes.proofs.blank_inboxes.BlankInboxes.new.Given as goal

abbrev pub invariant-loop : goal.invariant-loop
invariant-loop g l = record {
  rows : AreBlankSenders g.N.Naming.cells.config.proxies l.ends.items l.rows.items;
  count : length l.ends.items ≡ l.counter;
}
