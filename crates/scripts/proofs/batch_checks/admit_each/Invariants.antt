use Rattle.std.proofs.Common.{◌≡◌, ◌++◌, map}
use Rattle.std.specs.Vec.Iter.{into_iter_items}
use Rattle.mutation.specs.Faults.{first_fault, transaction_fault}
use Rattle.mutation.specs.Transactions.{given_from}
use Rattle.scripts.proofs.batch_checks.admit_each.Given as goal

abbrev pub invariant-loop-transaction : goal.invariant-loop-transaction
invariant-loop-transaction l = record {
  read : l.admitted.items ++ map given_from (into_iter_items l.transaction-iterator) ≡ map given_from l.fn.given;
  told : first_fault transaction_fault (map given_from (into_iter_items l.transaction-iterator)) ≡ first_fault transaction_fault (map given_from l.fn.given);
}
