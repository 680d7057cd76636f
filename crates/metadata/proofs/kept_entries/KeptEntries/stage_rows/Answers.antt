-- Nothing is changed at first, and each row adds what it changes.
use Rattle.std.proofs.Common.{refl}
use Rattle.model.specs.Metadata.{after_journal_row}
use Rattle.metadata.proofs.PutEntries.{rows_next}
use Rattle.metadata.proofs.kept_entries.KeptEntries.stage_rows.Goals as goal

pub loop-row-init : goal.loop-row-init
loop-row-init c = (c.args.self.now, (λ key. rw (c.new-staged.ensures.cleared, c.new-staged.ensures.puts) refl), refl)

pub loop-row-preserved : goal.loop-row-preserved
loop-row-preserved c = (
  after_journal_row c.loop-row.invariant.0 c.row-item.result,
  c.in_ok-stage_row.ensures c.loop-row.invariant.0 c.loop-row.invariant.1,
  rows_next c.args.rows.now c.row-item.result c.loop-row.row-index c.loop-row.invariant.0 _ c.loop-row-test.true c.row-item.is c.loop-row.invariant.2,
)
