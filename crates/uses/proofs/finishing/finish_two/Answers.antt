-- Both records are finished, in the order of their versions.
use Rattle.std.proofs.Common.{◌≡◌, inl, inr, rules}
use Rattle.std.specs.Prelude.{Err}
use Rattle.uses.specs.Finishing.{RefusesOneFinish}
use Rattle.uses.proofs.CommitRefusals.{if_err}
use Rattle.uses.proofs.FinishedTwo.{finishes_both}
use Rattle.uses.proofs.finishing.finish_two.Goals as goal

pub returns-clause-answers : goal.returns-clause-answers
returns-clause-answers g c = finishes_both g.N.Naming.cells.config c.args.guard.now c.finish_or_drop.new.guard c.finish_or_drop-2.new.guard
    c.args.first c.args.second c.in_ok-answer.answer c.in_ok-next_answer.next_answer c.version_chain_law.ensures.own c.number-number.ensures.kept
    c.version-version.ensures.kept c.in_ok-answer.ensures.finished c.in_ok-next_answer.ensures.finished

pub returns-in_err-answer-clause-refused : goal.returns-in_err-answer-clause-refused
returns-in_err-answer-clause-refused g c =
    let refused = c.in_err-answer.field-0.0 in
    let is : c.from_residual.result ≡ Err refused = search rules in
    if_err (RefusesOneFinish g.N.Naming.cells.config c.args.guard.now c.args.first c.args.second c.finish_or_drop.new.guard) c.from_residual.result refused is
    (inl c.in_err-answer.ensures.refused)

pub returns-in_err-next_answer-clause-refused : goal.returns-in_err-next_answer-clause-refused
returns-in_err-next_answer-clause-refused g c =
    let refused = c.in_err-next_answer.field-0.0 in
    let is : c.from_residual-in_err-next_answer.result ≡ Err refused = search rules in
    if_err (RefusesOneFinish g.N.Naming.cells.config c.args.guard.now c.args.first c.args.second c.finish_or_drop-2.new.guard) c.from_residual-in_err-next_answer.result refused is
    (inr (c.finish_or_drop.new.guard, c.in_ok-answer.answer, c.in_ok-answer.ensures.finished, c.version-version.ensures.kept, c.in_err-next_answer.ensures.refused))
