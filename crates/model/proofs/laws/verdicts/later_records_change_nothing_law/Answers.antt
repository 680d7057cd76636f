use Rattle.model.proofs.Shares.Askers.{verdict_in_later}
use Rattle.model.proofs.Agreement.Sources.{journal_later, metadata_later, outcomes_later, finished_later, replies_later}
use Rattle.model.proofs.laws.verdicts.later_records_change_nothing_law.Goals as goal

pub returns-clause-verdicts : goal.returns-clause-verdicts
returns-clause-verdicts c = verdict_in_later

pub returns-clause-journal : goal.returns-clause-journal
returns-clause-journal c = journal_later

pub returns-clause-metadata : goal.returns-clause-metadata
returns-clause-metadata c = metadata_later

pub returns-clause-outcomes : goal.returns-clause-outcomes
returns-clause-outcomes c = outcomes_later

pub returns-clause-replies : goal.returns-clause-replies
returns-clause-replies c = replies_later

pub returns-clause-finished : goal.returns-clause-finished
returns-clause-finished c = finished_later
