-- The rows to come bring the metadata to that of all rows.
use Rattle.std.proofs.Common.{◌≡◌, drop, fold}
use Rattle.model.specs.Metadata.{metadata, after_journal_row}
use Rattle.proxy_state.specs.Beginning.{rows_up_to}
use Rattle.proxy_state.proofs.proxy.fold_up_to.Given as goal

abbrev pub invariant-loop-row : goal.invariant-loop-row
invariant-loop-row l = fold after_journal_row l.metadata (rows_up_to l.version (drop l.row-index l.journal)) ≡ metadata (rows_up_to l.version l.journal)
