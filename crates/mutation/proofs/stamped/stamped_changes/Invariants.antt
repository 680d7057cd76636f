use Rattle.std.proofs.Common.{◌≡◌, ◌++◌, None, map, drop}
use Rattle.model.specs.Stamps.{stamped_mutation}
use Rattle.mutation.specs.Admitted.{from_admitted}
use Rattle.mutation.specs.Faults.{first_fault, fault_of_mutation}
use Rattle.mutation.proofs.stamped.stamped_changes.Given as goal

abbrev pub invariant-loop-mutation : goal.invariant-loop-mutation
invariant-loop-mutation l = record {
  read : l.changes.items ++ map (stamped_mutation l.version l.number) (map from_admitted (drop l.mutation-index l.mutations)) ≡ map (stamped_mutation l.version l.number) (map from_admitted l.mutations);
  faultless : first_fault fault_of_mutation (map from_admitted (drop l.mutation-index l.mutations)) ≡ None;
}
