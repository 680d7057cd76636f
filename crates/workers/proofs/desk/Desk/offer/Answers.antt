-- The answer is told, and nothing else changes, but that the worker may have failed.
use Rattle.std.proofs.Common.{sym, ◌∙◌, subst, ◌<◌, ◌≤◌, length}
use Rattle.facts.specs.Stretches.{end_of}
use Rattle.agreed_ledger.specs.Cells.{ColumnView}
use Rattle.std.specs.Prelude.{Option}
use Rattle.locked_resolvers.specs.declared.refusal.Refusal.{Refusal}
use Rattle.workers.specs.Refusing.{IsToldOf}
use Rattle.workers.proofs.DeskLemmas.{fails_keeps, keeps_trans, told_of}
use Rattle.workers.proofs.desk.Desk.offer.Goals as goal

pub returns-clause-keeps : goal.returns-clause-keeps
returns-clause-keeps g c = keeps_trans _ _ _ c.offer_to_resolver-answer.ensures.keeps (fails_keeps _ _ c.tell.ensures.fails)

pub returns-clause-served : goal.returns-clause-served
returns-clause-served g c =
    λ sound. subst (λ (col : ColumnView). c.args.request.plain.row < end_of col.rows) (sym c.tell.ensures.fails.column) (c.offer_to_resolver-answer.ensures.served (c.tell.ensures.fails.failed sound))

pub returns-clause-closed : goal.returns-clause-closed
returns-clause-closed g c = λ closed. c.offer_to_resolver-answer.ensures.closed (sym c.tell.ensures.closed ∙ closed)

pub returns-clause-reached : goal.returns-clause-reached
returns-clause-reached g c =
    λ sound. subst (λ (col : ColumnView). length c.offer_to_resolver-answer.new.guard.column ≤ end_of col.rows) (sym c.tell.ensures.fails.column) (c.offer_to_resolver-answer.ensures.reached (c.tell.ensures.fails.failed sound))

pub returns-clause-told : goal.returns-clause-told
returns-clause-told g c =
    let asked = c.args.guard.now in
    let left = c.offer_to_resolver-answer.new.guard in
    subst (λ (told : Option Refusal). IsToldOf asked c.args.request left told) (sym c.tell.ensures.told) (told_of asked c.args.request left c.offer_to_resolver-answer.result c.offer_to_resolver-answer.ensures.answer)
