use Rattle.std.proofs.Common.{◌≡◌, map, drop}
use Rattle.mutation.specs.Faults.{first_fault, fault_of_mutation}
use Rattle.mutation.specs.Transactions.{from_unchecked}
use Rattle.mutation.proofs.checks.check_mutations.Given as goal

abbrev pub invariant-loop-mutation : goal.invariant-loop-mutation
invariant-loop-mutation l =
    first_fault fault_of_mutation (map from_unchecked (drop l.mutation-index l.mutations)) ≡ first_fault fault_of_mutation (map from_unchecked l.mutations)
