use Rattle.model.proofs.Journals.ReplyRows.{split_at_version}
use Rattle.model.proofs.laws.history.seen_then_unseen_law.Goals as goal

pub returns : goal.returns
returns c = split_at_version
