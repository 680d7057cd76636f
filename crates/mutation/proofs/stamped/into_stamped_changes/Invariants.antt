-- The changes so far, and the mutations that are left.
use Rattle.std.proofs.Common.{◌≡◌, ◌++◌, None, map}
use Rattle.std.specs.Vec.Iter.{into_iter_items}
use Rattle.model.specs.Stamps.{stamped_mutation}
use Rattle.mutation.specs.Admitted.{from_admitted}
use Rattle.mutation.specs.Faults.{first_fault, fault_of_mutation}
use Rattle.mutation.proofs.stamped.into_stamped_changes.Given as goal

abbrev pub invariant-loop-mutation : goal.invariant-loop-mutation
invariant-loop-mutation l = record {
  read : l.changes.items ++ map (stamped_mutation l.version l.number) (map from_admitted (into_iter_items l.mutation-iterator)) ≡ map (stamped_mutation l.version l.number) (map from_admitted l.fn.mutations);
  faultless : first_fault fault_of_mutation (map from_admitted (into_iter_items l.mutation-iterator)) ≡ None;
}
