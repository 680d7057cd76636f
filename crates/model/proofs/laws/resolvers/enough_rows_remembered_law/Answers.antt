use Rattle.model.proofs.Resolvers.Remembered.{reached_up_to, reached_by, remembered_enough, unseen_remembered, remembered_more}
use Rattle.model.proofs.laws.resolvers.enough_rows_remembered_law.Goals as goal

pub returns : goal.returns
returns c = record { each = reached_up_to; tight = reached_by; enough = remembered_enough; told = unseen_remembered; more = remembered_more }
