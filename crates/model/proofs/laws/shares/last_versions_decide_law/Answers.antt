use Rattle.model.proofs.Shares.ByWrites.{conflict_by_last, last_versions_decide}
use Rattle.model.proofs.laws.shares.last_versions_decide_law.Goals as goal

pub returns : goal.returns
returns c = record { conflict = conflict_by_last; decided = last_versions_decide }
