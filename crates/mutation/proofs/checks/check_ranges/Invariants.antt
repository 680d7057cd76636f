use Rattle.std.proofs.Common.{◌≡◌, map, drop}
use Rattle.mutation.specs.Faults.{first_fault, fault_of_range}
use Rattle.mutation.specs.Transactions.{range_from}
use Rattle.mutation.proofs.checks.check_ranges.Given as goal

abbrev pub invariant-loop-range : goal.invariant-loop-range
invariant-loop-range l =
    first_fault fault_of_range (map range_from (drop l.range-index l.ranges)) ≡ first_fault fault_of_range (map range_from l.ranges)
