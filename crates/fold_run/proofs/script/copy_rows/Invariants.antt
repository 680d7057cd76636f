-- The copies so far, and the rows to come, are all rows.
use Rattle.std.proofs.Common.{◌≡◌, ◌++◌, drop}
use Rattle.fold_run.proofs.script.copy_rows.Given as goal

abbrev pub invariant-loop-row : goal.invariant-loop-row
invariant-loop-row l = l.copies.items ++ drop l.row-index l.rows ≡ l.rows
