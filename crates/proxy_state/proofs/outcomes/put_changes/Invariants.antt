-- With the changes of the transactions that are left, the mutations are those with all changes.
use Rattle.std.proofs.Common.{◌≡◌, ◌+◌, ◌≤◌, ◌++◌, length, take, drop}
use Rattle.std.specs.Vec.Iter.{into_iter_items, into_iter_len}
use Rattle.proxy_state.specs.TakenChanges.{with_changes, changes_of}
use Rattle.proxy_state.proofs.outcomes.put_changes.Given as goal

abbrev pub invariant-loop-transaction : goal.invariant-loop-transaction
invariant-loop-transaction l =
    let left = changes_of (into_iter_items l.transaction-iterator) (drop l.number l.outcomes) in
    record {
      put : take l.first l.tagged.items ++ with_changes (drop l.first l.tagged.items) left ≡ with_changes l.fn.tagged.items (changes_of l.fn.batch l.outcomes);
      room : l.first + length left ≤ length l.tagged.items;
      numbers : l.number + length (into_iter_items l.transaction-iterator) ≡ length l.fn.batch;
      left : into_iter_len l.transaction-iterator ≡ length (into_iter_items l.transaction-iterator);
    }
