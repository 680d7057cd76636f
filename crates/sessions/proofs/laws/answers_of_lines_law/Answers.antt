use Rattle.sessions.proofs.LawLemmas.{carried_out, one_for_each}
use Rattle.sessions.proofs.laws.answers_of_lines_law.Goals as goal

pub returns-clause-one_for_each : goal.returns-clause-one_for_each
returns-clause-one_for_each g c = one_for_each g.A.Answering.rules

pub returns-clause-or_nothing : goal.returns-clause-or_nothing
returns-clause-or_nothing g c = carried_out g.A.Answering.rules
