-- What was served so far is served.
use Rattle.std.proofs.Common.{sym, ◌∙◌, subst, ℕ, ◌≤◌, max, length}
use Rattle.facts.specs.Stretches.{end_of}
use Rattle.model.specs.Agreed.{Column}
use Rattle.agreed_ledger.specs.Cells.{ColumnView}
use Rattle.workers.specs.Desks.{IsNoneDue, next_row}
use Rattle.workers.proofs.DeskLemmas.{keeps_trans, same_column, with_closed, with_worker}
use Rattle.workers.proofs.desk.Desk.offer_due.Goals as goal

pub loop-place-preserved : goal.loop-place-preserved
loop-place-preserved g c =
    record {
      keeps = keeps_trans _ _ _ c.loop-place.invariant.keeps c.offer_at_place-told.ensures.keeps;
      own = c.offer_at_place-told.ensures.keeps.resolver ∙ c.loop-place.invariant.own ∙ sym c.offer_at_place-told.ensures.own;
      reached = c.offer_at_place-told.ensures.reached;
    }

pub returns-clause-keeps : goal.returns-clause-keeps
returns-clause-keeps g c = keeps_trans _ _ _ c.loop-place.invariant.keeps c.refuse_held_if_closed.ensures.keeps

pub returns-clause-none_due : goal.returns-clause-none_due
returns-clause-none_due g c =
    let before = c.loop-place.self in
    let guard = c.loop-place.guard in
    let after = c.refuse_held_if_closed.new.self in
    let none : IsNoneDue before (next_row before guard) = subst (λ (n : ℕ). IsNoneDue before n) c.next_row.ensures c.in_default.ensures in
    let cells = same_column c.loop-place.guard c.refuse_held_if_closed.new.guard (with_worker c.loop-place.self.closed c.loop-place.guard c.refuse_held_if_closed.new.guard c.refuse_held_if_closed.ensures.resolver) in
    subst (λ (rows : Column). IsNoneDue after (max (end_of after.column.rows) (length rows))) (sym cells)
    (subst (λ (col : ColumnView). IsNoneDue after (max (end_of col.rows) (length guard.column))) (sym c.refuse_held_if_closed.ensures.column) (c.refuse_held_if_closed.ensures.none_due (next_row before guard) none))

pub returns-clause-reached : goal.returns-clause-reached
returns-clause-reached g c =
    let after = c.refuse_held_if_closed.new.self in
    let cells = same_column c.loop-place.guard c.refuse_held_if_closed.new.guard (with_worker c.loop-place.self.closed c.loop-place.guard c.refuse_held_if_closed.new.guard c.refuse_held_if_closed.ensures.resolver) in
    λ sound. subst (λ (rows : Column). length rows ≤ end_of after.column.rows) (sym cells)
    (subst (λ (col : ColumnView). length c.loop-place.guard.column ≤ end_of col.rows) (sym c.refuse_held_if_closed.ensures.column) (c.loop-place.invariant.reached (c.refuse_held_if_closed.ensures.keeps.failed sound)))

pub returns-clause-closed : goal.returns-clause-closed
returns-clause-closed g c =
    λ closed. with_closed c.loop-place.self.closed c.loop-place.guard c.refuse_held_if_closed.new.guard c.refuse_held_if_closed.ensures.resolver (sym c.refuse_held_if_closed.ensures.closed ∙ closed)
