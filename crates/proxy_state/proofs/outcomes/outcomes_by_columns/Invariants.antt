-- The outcomes so far, and those of the transactions that are left, are all.
use Rattle.std.proofs.Common.{◌≡◌, ◌++◌, drop, length}
use Rattle.proxy_state.specs.Finishing.{outcomes_by_columns}
use Rattle.proxy_state.proofs.outcomes.outcomes_by_columns.Given as goal

abbrev pub invariant-loop-number : goal.invariant-loop-number
invariant-loop-number l = record {
  value : l.outcomes.items ++ outcomes_by_columns l.columns l.locked l.version l.number (drop l.number l.batch) (drop l.number l.lists) ≡ outcomes_by_columns l.columns l.locked l.version 0 l.batch l.lists;
  count : length l.outcomes.items ≡ l.number;
}
