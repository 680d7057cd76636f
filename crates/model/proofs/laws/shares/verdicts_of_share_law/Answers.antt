use Rattle.model.proofs.Shares.Askers.{share_part, share_verdicts_are}
use Rattle.model.proofs.laws.shares.verdicts_of_share_law.Goals as goal

pub returns-clause-parts : goal.returns-clause-parts
returns-clause-parts c = share_part

pub returns-clause-verdicts : goal.returns-clause-verdicts
returns-clause-verdicts c = share_verdicts_are
