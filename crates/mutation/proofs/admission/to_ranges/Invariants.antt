use Rattle.std.proofs.Common.{◌≡◌, ◌++◌, None, map}
use Rattle.std.specs.Vec.Iter.{into_iter_items}
use Rattle.mutation.specs.Faults.{first_fault, fault_of_range}
use Rattle.mutation.specs.Transactions.{range_from}
use Rattle.mutation.proofs.admission.to_ranges.Given as goal

abbrev pub invariant-loop-range : goal.invariant-loop-range
invariant-loop-range l = record {
  read : l.checked.items ++ map range_from (into_iter_items l.range-iterator) ≡ map range_from l.fn.ranges;
  faultless : first_fault fault_of_range (map range_from (into_iter_items l.range-iterator)) ≡ None;
}
