use Rattle.model.proofs.Verdicts.Joined.{joined_conflict_iff, joined_committed_iff}
use Rattle.model.proofs.laws.verdicts.joined_verdict_law.Goals as goal

pub returns-clause-conflict : goal.returns-clause-conflict
returns-clause-conflict c = joined_conflict_iff

pub returns-clause-committed : goal.returns-clause-committed
returns-clause-committed c = joined_committed_iff
