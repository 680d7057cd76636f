-- Each answer has its batch, since the replies are to the record that was begun with it.
use Rattle.std.proofs.Common.{◌≡◌, inl, inr, rules}
use Rattle.std.specs.Prelude.{Err}
use Rattle.std.proofs.lemmas.Result.{IfErr-weaker, IfOk-weaker}
use Rattle.uses.specs.Causes.{OneWasNotCommitted}
use Rattle.uses.specs.Finishing.{AnswerInOrder, FinishesBoth, RefusesOneFinish}
use Rattle.uses.proofs.CommitRefusals.{if_err, one_finish_refused}
use Rattle.uses.proofs.FinishedTwo.{holds_still, in_order}
use Rattle.uses.proofs.finishing.commit_two.Goals as goal

pub returns-clause-answers : goal.returns-clause-answers
returns-clause-answers g c =
    let begun = c.in_ok-begun.begun in
    let next_begun = c.in_ok-begun.next_begun in
    let first = c.in_ok-first.first in
    let second = c.in_ok-second.second in
    IfOk-weaker c.finish_two.result (λ both. FinishesBoth c.lock-guard.result first second c.finish_two.new.guard both.0 both.1) (λ both. AnswerInOrder c.args.proxy.now c.args.batch c.args.next_batch both.0 both.1)
    (λ both is. in_order c.args.proxy.now c.lock-guard.result c.finish_two.new.guard c.args.batch c.args.next_batch begun next_begun first second
    both.0 both.1 c.in_ok-begun.ensures.first c.in_ok-begun.ensures.second c.in_ok-first.ensures.row c.in_ok-first.ensures.records
    c.in_ok-second.ensures.row c.in_ok-second.ensures.records is)
    c.finish_two.ensures.answers

pub returns-clause-refused : goal.returns-clause-refused
returns-clause-refused g c =
    let cells = g.N.Naming.cells in
    let p = c.args.proxy.now in
    let begun = c.in_ok-begun.begun in
    let next_begun = c.in_ok-begun.next_begun in
    let first = c.in_ok-first.first in
    let second = c.in_ok-second.second in
    let guard = c.lock-guard in
    let holds = holds_still p begun.row first.row begun.records first.records c.args.batch c.in_ok-first.ensures.row c.in_ok-first.ensures.records c.in_ok-begun.ensures.first in
    let next_holds = holds_still p next_begun.row second.row next_begun.records second.records c.args.next_batch c.in_ok-second.ensures.row c.in_ok-second.ensures.records c.in_ok-begun.ensures.second in
    IfErr-weaker c.finish_two.result (RefusesOneFinish cells.config guard.result first second c.finish_two.new.guard) (OneWasNotCommitted cells p c.args.batch c.args.next_batch)
    (λ refused refuses. one_finish_refused cells p c.args.batch c.args.next_batch guard.result first second c.finish_two.new.guard refused
    guard.ensures.kept guard.ensures.number c.row-row.ensures.kept c.row-next_row.ensures.kept holds next_holds refuses)
    c.finish_two.ensures.refused

pub returns-in_err-first-clause-refused : goal.returns-in_err-first-clause-refused
returns-in_err-first-clause-refused g c =
    let refused = c.in_err-first.field-0.0 in
    let is : c.from_residual-in_err-first.result ≡ Err refused = search rules in
    if_err (OneWasNotCommitted g.N.Naming.cells c.args.proxy.now c.args.batch c.args.next_batch) c.from_residual-in_err-first.result refused is
    (inl (c.in_err-first.ensures.refused c.args.batch c.in_ok-begun.ensures.first))

pub returns-in_err-second-clause-refused : goal.returns-in_err-second-clause-refused
returns-in_err-second-clause-refused g c =
    let refused = c.in_err-second.field-0.0 in
    let is : c.from_residual-in_err-second.result ≡ Err refused = search rules in
    if_err (OneWasNotCommitted g.N.Naming.cells c.args.proxy.now c.args.batch c.args.next_batch) c.from_residual-in_err-second.result refused is
    (inr (c.in_err-second.ensures.refused c.args.next_batch c.in_ok-begun.ensures.second))
