use Rattle.sessions.proofs.LawLemmas.{answers_before_reads, never_writes_ahead}
use Rattle.sessions.proofs.laws.answers_in_turn_law.Goals as goal

pub returns-clause-never_ahead : goal.returns-clause-never_ahead
returns-clause-never_ahead g c = never_writes_ahead g.A.Answering.rules

pub returns-clause-before_reads : goal.returns-clause-before_reads
returns-clause-before_reads g c = answers_before_reads g.A.Answering.rules
