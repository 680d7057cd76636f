-- The copies are those of the rows before i.
use Rattle.std.proofs.Common.{◌≡◌, drop, take}
use Rattle.state_memory.proofs.rows.rows_above.Given as goal

abbrev pub invariant-loop-i : goal.invariant-loop-i
invariant-loop-i l = l.copies.items ≡ drop l.start (take l.i l.rows.items)
