-- The transactions that are left give, from the metadata so far, what all give.
use Rattle.std.proofs.Common.{◌≡◌, fold, length}
use Rattle.std.specs.Vec.Iter.{into_iter_items, into_iter_len}
use Rattle.model.specs.Metadata.{after_state}
use Rattle.metadata.proofs.kept_entries.KeptEntries.apply_own_states.Given as goal

abbrev pub invariant-loop-transaction : goal.invariant-loop-transaction
invariant-loop-transaction l = record {
  told : fold (after_state l.locked) l.self (into_iter_items l.transaction-iterator) ≡ fold (after_state l.locked) l.fn.self l.fn.states;
  count : into_iter_len l.transaction-iterator ≡ length (into_iter_items l.transaction-iterator);
}
