use Rattle.endings.proofs.Distances.{lacks_unfinished, lacks_others}
use Rattle.endings.proofs.laws.distances.lacks_only_unfinished_law.Goals as goal

pub returns : goal.returns
returns c = record { unfinished = lacks_unfinished; finished = lacks_others }
