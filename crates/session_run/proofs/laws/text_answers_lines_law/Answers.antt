use Rattle.std.specs.Prelude.{None}
use Rattle.sessions.specs.Lines.{lines_of}
use Rattle.session_run.specs.Session.{session_rules}
use Rattle.session_run.proofs.AnswerLemmas.{text_answers}
use Rattle.session_run.proofs.laws.text_answers_lines_law.Goals as goal

pub returns : goal.returns
returns c = λ bytes. text_answers session_rules None (lines_of bytes)
