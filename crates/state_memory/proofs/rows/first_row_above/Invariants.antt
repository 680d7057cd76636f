-- All rows from i on are above the version.
use Rattle.std.proofs.Common.{◌≡◌, drop}
use Rattle.state_memory.specs.Kept.{rows_above}
use Rattle.state_memory.proofs.rows.first_row_above.Given as goal

abbrev pub invariant-loop-i : goal.invariant-loop-i
invariant-loop-i l = rows_above l.version (drop l.i l.rows.items) ≡ drop l.i l.rows.items
