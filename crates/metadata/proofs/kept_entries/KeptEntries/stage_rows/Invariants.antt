-- What the rows so far change gives entries from which the rows that are left give what all rows give.
use Rattle.std.proofs.Common.{◌≡◌, drop}
use Rattle.model.specs.Metadata.{Entries}
use Rattle.metadata.specs.Overwrites.{IsOverwritten}
use Rattle.metadata.specs.Started.{after_rows}
use Rattle.metadata.proofs.kept_entries.KeptEntries.stage_rows.Given as goal

abbrev pub invariant-loop-row : goal.invariant-loop-row
invariant-loop-row l = (now : Entries) × IsOverwritten l.staged.cleared l.staged.puts l.self now × (after_rows now (drop l.row-index l.rows) ≡ after_rows l.self l.rows)
