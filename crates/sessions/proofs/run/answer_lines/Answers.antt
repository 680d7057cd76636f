use Rattle.sessions.proofs.Corollaries.{session_at_reads}
use Rattle.sessions.proofs.run.answer_lines.Goals as goal

pub returns-clause-at_reads : goal.returns-clause-at_reads
returns-clause-at_reads g c = session_at_reads _ _ _ _ _ c.answer_until_end.result c.answer_until_end.ensures.session
