-- The row is started, with none before it, and finished; a row with a single change makes that.
use Rattle.metadata.proofs.OverwrittenEntries.{one_applied}
use Rattle.model.specs.Metadata.{after_journal_row}
use Rattle.metadata.proofs.metadata.Metadata.apply_row.Goals as goal

pub returns-clause-ok : goal.returns-clause-ok
returns-clause-ok c = c.finish_rows.ensures c.args.self.now (after_journal_row c.args.self.now c.args.row.now) c.in_ok-started.ensures.ok

pub returns-in-Some-clause-ok : goal.returns-in-Some-clause-ok
returns-in-Some-clause-ok c =
    one_applied c.args.row.now c.args.self.now c.apply.new.self c.is_locked-locked.result c.as_slice-states.result.now c.in-Some.change.now c.is_locked-locked.ensures c.as_slice-states.ensures c.in-Some.ensures c.in_ok-apply.ensures.ok
