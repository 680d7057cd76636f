-- The rows that are left, folded onto the metadata so far, give what all rows give.
use Rattle.std.proofs.Common.{◌≡◌, drop, fold}
use Rattle.model.specs.Metadata.{after_journal_row}
use Rattle.metadata.proofs.kept_entries.KeptEntries.fold_rows.Given as goal

abbrev pub invariant-loop-row : goal.invariant-loop-row
invariant-loop-row l = fold after_journal_row l.self (drop l.row-index l.rows) ≡ fold after_journal_row l.fn.self l.rows
