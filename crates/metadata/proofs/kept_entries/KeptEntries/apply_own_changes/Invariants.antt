-- The changes that are left give, from the metadata so far, what all give.
use Rattle.std.proofs.Common.{◌≡◌, length}
use Rattle.std.specs.Vec.Iter.{into_iter_items, into_iter_len}
use Rattle.model.specs.Metadata.{after_changes}
use Rattle.metadata.proofs.kept_entries.KeptEntries.apply_own_changes.Given as goal

abbrev pub invariant-loop-change : goal.invariant-loop-change
invariant-loop-change l = record {
  told : after_changes l.self (into_iter_items l.change-iterator) ≡ after_changes l.fn.self l.fn.changes;
  count : into_iter_len l.change-iterator ≡ length (into_iter_items l.change-iterator);
}
