-- With the changes that are left, the mutations are those with all changes.
use Rattle.std.proofs.Common.{◌≡◌, ◌+◌, ◌++◌, length, take, drop}
use Rattle.std.specs.Vec.Iter.{into_iter_items, into_iter_len}
use Rattle.proxy_state.specs.TakenChanges.{with_changes}
use Rattle.proxy_state.proofs.outcomes.put_changes_from.Given as goal

abbrev pub invariant-loop-change : goal.invariant-loop-change
invariant-loop-change l = record {
  put : take l.place l.tagged.items ++ with_changes (drop l.place l.tagged.items) (into_iter_items l.change-iterator) ≡ take l.fn.first l.fn.tagged.items ++ with_changes (drop l.fn.first l.fn.tagged.items) l.fn.changes;
  place : l.place + length (into_iter_items l.change-iterator) ≡ l.fn.first + length l.fn.changes;
  count : length l.tagged.items ≡ length l.fn.tagged.items;
  left : into_iter_len l.change-iterator ≡ length (into_iter_items l.change-iterator);
}
