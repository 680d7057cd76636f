use Rattle.model.proofs.Shares.Forgetting.{verdict_of_newer, committed_of_newer}
use Rattle.model.proofs.laws.shares.forgetting_keeps_verdicts_law.Goals as goal

pub returns : goal.returns
returns c = record { verdict = verdict_of_newer; committed = committed_of_newer }
