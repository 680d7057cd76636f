use Rattle.session_run.proofs.AnswerLemmas.{faulty_after, faulty_printed}
use Rattle.session_run.proofs.session.SessionAnswering.answer.Goals as goal

pub returns-in-Ok-clause-text : goal.returns-in-Ok-clause-text
returns-in-Ok-clause-text g c = rw c.in-Ok.ensures c.answer_line.ensures.text

pub returns-in-Ok-clause-ok : goal.returns-in-Ok-clause-ok
returns-in-Ok-clause-ok g c = rw c.in-Ok.ensures c.answer_line.ensures.ok

pub returns-in-Err-clause-text : goal.returns-in-Err-clause-text
returns-in-Err-clause-text g c =
    faulty_printed g.P.Page.has_printed c.args.self.now.cluster _ c.in-Err.fault c.print_fault.result _ _ c.in-Err.ensures c.print_fault.ensures.numbered c.print_fault.ensures.text

pub returns-in-Err-clause-ok : goal.returns-in-Err-clause-ok
returns-in-Err-clause-ok g c =
    faulty_after c.args.self.now.cluster _ c.in-Err.fault c.print_fault.result c.in-Err.ensures c.print_fault.ensures.numbered
