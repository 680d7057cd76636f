-- What the rows change is what is staged.
use Rattle.std.proofs.Common.{◌≡◌, ◌∙◌, sym, subst, ap, rules}
use Rattle.std.proofs.lemmas.Result.{IfOk-weaker}
use Rattle.model.specs.Metadata.{Entries, IsInOrder, is_locked, after_journal_row}
use Rattle.metadata.specs.Overwrites.{IsOverwritten}
use Rattle.metadata.specs.Started.{IsStarted, after_rows}
use Rattle.metadata.proofs.PutEntries.{row_kept, rows_kept_in_order, lock_staged}
use Rattle.metadata.proofs.metadata.Metadata.start_without_runs.Goals as goal

pub returns-clause-ok : goal.returns-clause-ok
returns-clause-ok c =
    let same : c.start_sets.new.self ≡ c.args.self.now = search rules in
    let after = after_journal_row (after_rows c.args.self.now c.args.rows.now) c.args.last.now in
    let before = after_rows c.self.inside.entries c.args.rows.now in
    let fine = row_kept c.args.last.now before (rows_kept_in_order c.args.rows.now c.self.inside.entries (c.is_locked_after-locked.ensures.order, c.is_locked_after-locked.ensures.kept)) in
    let over = c.in_ok-stage_row.ensures before c.in_ok-staged.ensures in
    IfOk-weaker c.start.result _ _
    (λ started is.
    subst (λ (entries : Entries). IsStarted started entries after c.start.new.self) same
    (is after
    (subst (λ (entries : Entries). IsInOrder (after_journal_row (after_rows entries c.args.rows.now) c.args.last.now)) (c.self.view_is ∙ same) fine.0)
    (subst (λ (entries : Entries). IsOverwritten c.stage_row.new.staged.cleared c.stage_row.new.staged.puts entries after) (sym same)
    (subst (λ (entries : Entries). IsOverwritten c.stage_row.new.staged.cleared c.stage_row.new.staged.puts entries (after_journal_row (after_rows entries c.args.rows.now) c.args.last.now)) (c.self.view_is ∙ same) over))))
    c.start.ensures.ok

pub returns-clause-locked : goal.returns-clause-locked
returns-clause-locked c =
    let same : c.start_sets.new.self ≡ c.args.self.now = search rules in
    IfOk-weaker c.start.result _ _
    (λ started is.
    is
    ∙ lock_staged c.in_ok-staged.staged.cleared c.in_ok-staged.staged.puts c.self.inside.entries (after_rows c.self.inside.entries c.args.rows.now) c.is_locked_after-locked.result c.is_locked_after-locked.ensures.value c.in_ok-staged.ensures
    ∙ ap (λ (entries : Entries). is_locked (after_rows entries c.args.rows.now)) (c.self.view_is ∙ same))
    c.start.ensures.locked
