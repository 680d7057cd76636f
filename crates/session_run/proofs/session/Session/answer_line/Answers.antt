use Rattle.pages.proofs.Prints.{prints_both}
use Rattle.session_run.proofs.session.Session.answer_line.Goals as goal

pub returns-clause-text : goal.returns-clause-text
returns-clause-text g c = prints_both c.in_ok-answer_lines.ensures.text c.push.ensures
