use Rattle.std.proofs.Common.{◌≡◌, ◌++◌, None, map}
use Rattle.std.specs.Vec.Iter.{into_iter_items}
use Rattle.mutation.specs.Faults.{first_fault, fault_of_mutation}
use Rattle.mutation.specs.Transactions.{from_unchecked}
use Rattle.mutation.specs.Admitted.{from_admitted}
use Rattle.mutation.proofs.admission.to_mutations.Given as goal

abbrev pub invariant-loop-mutation : goal.invariant-loop-mutation
invariant-loop-mutation l = record {
  read : map from_admitted l.admitted.items ++ map from_unchecked (into_iter_items l.mutation-iterator) ≡ map from_unchecked l.fn.mutations;
  faultless : first_fault fault_of_mutation (map from_unchecked (into_iter_items l.mutation-iterator)) ≡ None;
}
