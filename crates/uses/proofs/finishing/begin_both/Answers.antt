-- One of the batches was refused.
use Rattle.std.proofs.Common.{◌≡◌, ◌∙◌, subst, ℕ, inl, inr, rules}
use Rattle.std.specs.Prelude.{Err}
use Rattle.uses.specs.Causes.{OneWasNotCommitted, WasNotCommitted}
use Rattle.uses.proofs.CommitRefusals.{if_err}
use Rattle.uses.proofs.finishing.begin_both.Goals as goal

pub returns-in_err-first-clause-refused : goal.returns-in_err-first-clause-refused
returns-in_err-first-clause-refused g c =
    let cells = g.N.Naming.cells in
    let refused = c.in_err-first.field-0.0 in
    let is : c.from_residual.result ≡ Err refused = search rules in
    if_err (OneWasNotCommitted cells c.args.proxy.now c.args.batch c.args.next_batch) c.from_residual.result refused is
    (inl (subst (λ (p : ℕ). WasNotCommitted cells p c.args.batch refused) c.lock-guard.ensures.number c.in_err-first.ensures.refused))

pub returns-in_err-second-clause-refused : goal.returns-in_err-second-clause-refused
returns-in_err-second-clause-refused g c =
    let cells = g.N.Naming.cells in
    let refused = c.in_err-second.field-0.0 in
    let is : c.from_residual-in_err-second.result ≡ Err refused = search rules in
    if_err (OneWasNotCommitted cells c.args.proxy.now c.args.batch c.args.next_batch) c.from_residual-in_err-second.result refused is
    (inr (subst (λ (p : ℕ). WasNotCommitted cells p c.args.next_batch refused) (c.begin_batch.ensures.number ∙ c.lock-guard.ensures.number) c.in_err-second.ensures.refused))
