use Rattle.sessions.proofs.LineLemmas.{lines_split}
use Rattle.sessions.proofs.lines.lines_are_exact_law.Goals as goal

pub returns : goal.returns
returns c = lines_split
