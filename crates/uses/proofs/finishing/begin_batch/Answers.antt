-- The sequencer refused the batch, or the proxy refused to begin its record.
use Rattle.std.proofs.Common.{◌≡◌, refl, subst, ℕ, inl, rules}
use Rattle.std.specs.Prelude.{Err}
use Rattle.locked_cluster.specs.Commits.{HoldsBatch}
use Rattle.uses.specs.Causes.{WasNotCommitted}
use Rattle.uses.proofs.CommitRefusals.{if_err}
use Rattle.uses.proofs.finishing.begin_batch.Goals as goal

pub returns-in_err-ticket-clause-refused : goal.returns-in_err-ticket-clause-refused
returns-in_err-ticket-clause-refused g c =
    let cells = g.N.Naming.cells in
    let refused = c.in_err-ticket.field-0.0 in
    let is : c.from_residual.result ≡ Err refused = search rules in
    if_err (WasNotCommitted cells c.args.guard.now.proxy.number c.args.batch) c.from_residual.result refused is
    (subst (λ (p : ℕ). WasNotCommitted cells p c.args.batch refused) c.number.ensures.value c.in_err-ticket.ensures.refused)

pub returns-in-Err-clause-refused : goal.returns-in-Err-clause-refused
returns-in-Err-clause-refused g c =
    let ticket = c.in_ok-ticket.ticket in
    inl (ticket, c.row-row.ensures.kept, subst (λ (p : ℕ). HoldsBatch p ticket.row ticket.records c.args.batch) c.number.ensures.value c.in_ok-ticket.ensures.holds, (c.args.guard.now, c.number.ensures.kept, refl, c.in-Err.ensures.refused))
