-- The copies so far, and the rows to come, are all rows.
use Rattle.std.proofs.Common.{◌≡◌, ◌++◌, drop}
use Rattle.proxy_state.proofs.proxy.copy_journal.Given as goal

abbrev pub invariant-loop-row : goal.invariant-loop-row
invariant-loop-row l = l.copied.items ++ drop l.row-index l.rows.items ≡ l.rows.items
