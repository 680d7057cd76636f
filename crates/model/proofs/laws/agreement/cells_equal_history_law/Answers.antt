use Rattle.model.proofs.Agreement.Sources.{journal_known, outcomes_known, finished_known, journals_meet}
use Rattle.model.proofs.laws.agreement.cells_equal_history_law.Goals as goal

pub returns-clause-journal : goal.returns-clause-journal
returns-clause-journal c = journal_known

pub returns-clause-outcomes : goal.returns-clause-outcomes
returns-clause-outcomes c = outcomes_known

pub returns-clause-meet : goal.returns-clause-meet
returns-clause-meet c = journals_meet

pub returns-clause-finished : goal.returns-clause-finished
returns-clause-finished c = finished_known
