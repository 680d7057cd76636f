-- The rows that are left, folded onto the metadata so far, give what all rows give.
use Rattle.std.proofs.Common.{◌≡◌, fold, length}
use Rattle.std.specs.Vec.Iter.{into_iter_items, into_iter_len}
use Rattle.model.specs.Metadata.{after_journal_row}
use Rattle.metadata.proofs.kept_entries.KeptEntries.fold_own_rows.Given as goal

abbrev pub invariant-loop-row : goal.invariant-loop-row
invariant-loop-row l = record {
  told : fold after_journal_row l.self (into_iter_items l.row-iterator) ≡ fold after_journal_row l.fn.self l.fn.rows;
  count : into_iter_len l.row-iterator ≡ length (into_iter_items l.row-iterator);
}
