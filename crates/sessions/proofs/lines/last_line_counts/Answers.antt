use Rattle.sessions.proofs.LineLemmas.{last_line}
use Rattle.sessions.proofs.lines.last_line_counts.Goals as goal

pub returns : goal.returns
returns c = last_line
