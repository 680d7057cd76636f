use Rattle.session_run.proofs.AnswerLemmas.{carries_out_some}
use Rattle.session_run.proofs.laws.lines_or_nothing.Goals as goal

pub returns : goal.returns
returns c = carries_out_some
