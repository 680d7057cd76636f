-- Both have just committed, and show the promise.
use Rattle.std.proofs.Common.{◌≡◌, refl, subst, ℕ, inl, inr, rules}
use Rattle.std.specs.Prelude.{Err}
use Rattle.agreed_ledger.specs.declared.refusal.Refusal.TheVariants as ledgers
use Rattle.locked_cluster.specs.Commits.{IsCommitted}
use Rattle.uses.specs.Causes.{WasNotCommitted}
use Rattle.uses.specs.Starting.{WasNotShownBy}
use Rattle.uses.specs.declared.refused.Refused.TheVariants.{ByLedger}
use Rattle.uses.proofs.CommitRefusals.{if_err}
use Rattle.uses.proofs.StartRefusals.{by_two, no_memory}
use Rattle.uses.proofs.whole_cluster.commit_on_both.Goals as goal

pub returns-clause-promise : goal.returns-clause-promise
returns-clause-promise g c =
    record {
      one = c.in_ok-answer.mine;
      other = c.in_ok-next_answer.theirs;
      answer = c.in_ok-answer.answer;
      next_answer = c.in_ok-next_answer.next_answer;
      committed = subst (λ (p : ℕ). IsCommitted p c.args.batch c.in_ok-answer.answer c.in_ok-answer.mine) c.requires.one c.in_ok-answer.ensures.committed;
      next_committed = subst (λ (p : ℕ). IsCommitted p c.args.next_batch c.in_ok-next_answer.next_answer c.in_ok-next_answer.theirs) c.requires.other c.in_ok-next_answer.ensures.committed;
      shows = c.in_ok-show_both.ensures;
    }

pub returns-in_err-answer-clause-refused : goal.returns-in_err-answer-clause-refused
returns-in_err-answer-clause-refused g c =
    let cells = g.N.Naming.cells in
    let refused = c.in_err-answer.field-0.0 in
    let is : c.from_residual.result ≡ Err refused = search rules in
    if_err (WasNotShownBy cells c.args.batch c.args.next_batch) c.from_residual.result refused is
    (by_two cells c.args.batch c.args.next_batch refused c.requires.there (inr (inl (subst (λ (p : ℕ). WasNotCommitted cells p c.args.batch refused) c.requires.one c.in_err-answer.ensures.refused))))

pub returns-in_err-next_answer-clause-refused : goal.returns-in_err-next_answer-clause-refused
returns-in_err-next_answer-clause-refused g c =
    let cells = g.N.Naming.cells in
    let refused = c.in_err-next_answer.field-0.0 in
    let is : c.from_residual-in_err-next_answer.result ≡ Err refused = search rules in
    if_err (WasNotShownBy cells c.args.batch c.args.next_batch) c.from_residual-in_err-next_answer.result refused is
    (by_two cells c.args.batch c.args.next_batch refused c.requires.there (inr (inr (subst (λ (p : ℕ). WasNotCommitted cells p c.args.next_batch refused) c.requires.other c.in_err-next_answer.ensures.refused))))

pub returns-in_err-show_both-clause-refused : goal.returns-in_err-show_both-clause-refused
returns-in_err-show_both-clause-refused g c =
    let cells = g.N.Naming.cells in
    let is : c.from_residual-in_err-show_both.result ≡ Err (ByLedger ledgers.OutOfMemory) = search rules in
    if_err (WasNotShownBy cells c.args.batch c.args.next_batch) c.from_residual-in_err-show_both.result (ByLedger ledgers.OutOfMemory) is (no_memory cells c.args.batch c.args.next_batch (ByLedger ledgers.OutOfMemory) (inl refl))
