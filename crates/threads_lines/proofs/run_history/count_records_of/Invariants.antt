-- It is that of the records so far.
use Rattle.std.proofs.Common.{◌≡◌, ◌≤◌, length, take}
use Rattle.model.specs.Records.{records_of_proxy}
use Rattle.threads_lines.proofs.run_history.count_records_of.Given as goal

abbrev pub invariant-loop-row : goal.invariant-loop-row
invariant-loop-row g l = record {
  count : l.count ≡ length (records_of_proxy l.proxy (take l.row l.history.records));
  within : l.count ≤ l.row;
}
