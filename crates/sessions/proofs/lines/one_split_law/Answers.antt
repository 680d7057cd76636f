use Rattle.sessions.proofs.LineLemmas.{one_split}
use Rattle.sessions.proofs.lines.one_split_law.Goals as goal

pub returns : goal.returns
returns c = one_split
