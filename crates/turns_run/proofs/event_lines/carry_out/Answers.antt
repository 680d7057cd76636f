use Rattle.std.proofs.Common.{◌∙◌, ap, rules, subst, sym}
use Rattle.pages.proofs.Prints.{prints_as, prints_nothing}
use Rattle.turn_world.specs.Events.{event_answer_of, event_of}
use Rattle.turns_run.specs.Lines.{answer_text, event_text, finishing_proxy}
use Rattle.turns_run.specs.OrderOfMutations.{FitsFinish}
use Rattle.turns_run.proofs.AnswerLemmas.{answered, refused}
use Rattle.turns_run.proofs.FinishLemmas.{fits_finish}
use Rattle.turns_run.proofs.event_lines.carry_out.Goals as goal

pub print_answer-requires : goal.print_answer-requires
print_answer-requires g c =
    let before = c.args.world.now in
    let event = event_of c.args.event in
    subst (λ finishing. FitsFinish finishing (event_answer_of c.in-Ok.answer)) (sym c.finishing_proxy-finishing.ensures)
    (subst (FitsFinish (finishing_proxy event)) (answered before event c.in-Ok.answer c.in-Ok.ensures.answer) (fits_finish before.config before.world event))

pub returns-in-Ok-clause-text : goal.returns-in-Ok-clause-text
returns-in-Ok-clause-text g c =
    let event = event_of c.args.event in
    let answer = answered c.args.world.now event c.in-Ok.answer c.in-Ok.ensures.answer in
    prints_as c.print_answer.ensures (ap (λ finishing. answer_text finishing (event_answer_of c.in-Ok.answer)) c.finishing_proxy-finishing.ensures ∙ sym (ap (event_text event) answer))

pub returns-in_ok-check_has_number-in-Err-clause-text : goal.returns-in_ok-check_has_number-in-Err-clause-text
returns-in_ok-check_has_number-in-Err-clause-text g c =
    prints_as c.print_refusal.ensures
    (sym (refused c.args.world.now (event_of c.args.event) c.in-Err.refusal c.in_ok-check_has_number-in-Err.ensures c.in-Err.ensures.answer).0)

pub returns-in_ok-check_has_number-in-Err-clause-world : goal.returns-in_ok-check_has_number-in-Err-clause-world
returns-in_ok-check_has_number-in-Err-clause-world g c =
    c.in-Err.ensures.err ∙ (refused c.args.world.now (event_of c.args.event) c.in-Err.refusal c.in_ok-check_has_number-in-Err.ensures c.in-Err.ensures.answer).1

pub returns-in_err-check_has_number-in-Err-clause-unprinted : goal.returns-in_err-check_has_number-in-Err-clause-unprinted
returns-in_err-check_has_number-in-Err-clause-unprinted g c =
    search (rules, prints_nothing {has_printed = g.P.Page.has_printed} c.args.page.now)
