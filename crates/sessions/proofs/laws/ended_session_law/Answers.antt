use Rattle.sessions.proofs.LawLemmas.{answered_at_end, lines_carried_out, status_tells, unended_is_long}
use Rattle.sessions.proofs.laws.ended_session_law.Goals as goal

pub returns-clause-answered : goal.returns-clause-answered
returns-clause-answered g c = answered_at_end g.A.Answering.rules

pub returns-clause-carried_out : goal.returns-clause-carried_out
returns-clause-carried_out g c = lines_carried_out g.A.Answering.rules

pub returns-clause-unended : goal.returns-clause-unended
returns-clause-unended g c = unended_is_long g.A.Answering.rules

pub returns-clause-failures : goal.returns-clause-failures
returns-clause-failures g c = status_tells
