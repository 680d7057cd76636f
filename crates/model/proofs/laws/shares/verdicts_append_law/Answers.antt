use Rattle.model.proofs.Shares.Forgetting.{verdicts_after_append, length-verdicts_after, length-share_verdicts}
use Rattle.model.proofs.laws.shares.verdicts_append_law.Goals as goal

pub returns : goal.returns
returns c = record { longer = verdicts_after_append; count = length-verdicts_after; of_share = length-share_verdicts }
