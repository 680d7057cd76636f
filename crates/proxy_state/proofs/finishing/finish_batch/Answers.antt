-- The rows are started, and finished once the answer is made: the metadata is then that after them.
use Rattle.std.proofs.Common.{◌∙◌, ap, sym, Bool, List}
use Rattle.model.specs.declared.journal.JournalRow.{JournalRow}
use Rattle.model.specs.declared.verdict.Verdict.{Verdict}
use Rattle.model.specs.Metadata.{Entries, is_locked, after_journal_row}
use Rattle.metadata.specs.Started.{after_rows}
use Rattle.proxy_state.specs.Finishing.{finished_by_columns, after_told}
use Rattle.proxy_state.proofs.finishing.finish_batch.Goals as goal

pub take_back_rows-requires : goal.take_back_rows-requires
take_back_rows-requires c = record { before = c.args.metadata.now; after = _; is = c.in_ok-started.ensures.ok }

pub returns-in-Ok-clause-ok : goal.returns-in-Ok-clause-ok
returns-in-Ok-clause-ok c =
    c.finish_rows.ensures c.args.metadata.now _ c.in_ok-started.ensures.ok
    ∙ ap (λ (rows : List JournalRow). after_journal_row (after_rows c.args.metadata.now rows) c.args.learned.now.own) c.deref.ensures.value

pub returns-in-Ok-clause-finished : goal.returns-in-Ok-clause-finished
returns-in-Ok-clause-finished c =
    let lock = c.was_locked_before_last_row-locked.ensures ∙ c.in_ok-started.ensures.locked ∙ ap (λ (rows : List JournalRow). is_locked (after_rows c.args.metadata.now rows)) c.deref.ensures.value in
    let entries = c.entries_after-entries.ensures c.args.metadata.now _ c.in_ok-started.ensures.ok ∙ sym (c.finish_rows.ensures c.args.metadata.now _ c.in_ok-started.ensures.ok) in
    c.in-Ok.ensures.ok
    ∙ ap (λ (columns : List (List Verdict)). finished_by_columns c.args.config.now columns c.was_locked_before_last_row-locked.result c.entries_after-entries.result c.args.begun.now.rec) c.deref-2.ensures.value
    ∙ ap (λ (locked : Bool). finished_by_columns c.args.config.now c.args.learned.now.columns.items locked c.entries_after-entries.result c.args.begun.now.rec) lock
    ∙ ap (λ (after : Entries). finished_by_columns c.args.config.now c.args.learned.now.columns.items (is_locked (after_told c.args.metadata.now c.args.learned.now)) after c.args.begun.now.rec) entries

pub returns-in-Err-clause-err : goal.returns-in-Err-clause-err
returns-in-Err-clause-err c = c.take_back_rows.ensures c.args.metadata.now _ c.in_ok-started.ensures.ok
