-- What is left is in order, and of it the same is above the version.
use Rattle.std.proofs.Common.{◌≡◌, length}
use Rattle.state_memory.specs.Kept.{rows_above}
use Rattle.state_memory.specs.Order.{RowsIncrease}
use Rattle.state_memory.proofs.rows.forget_rows.Given as goal

abbrev pub invariant-loop-rows : goal.invariant-loop-rows
invariant-loop-rows l =
    record {
      order : RowsIncrease l.rows.items;
      same : rows_above l.version l.rows.items ≡ rows_above l.version l.fn.rows.items;
    }

abbrev pub decreases-loop-rows : goal.decreases-loop-rows
decreases-loop-rows l = length l.rows.items
