use Rattle.session_run.proofs.ShapeLemmas.{cluster_is_line, show_is_line}
use Rattle.session_run.proofs.laws.other_lines_law.Goals as goal

pub returns-clause-clusters : goal.returns-clause-clusters
returns-clause-clusters c = cluster_is_line

pub returns-clause-shows : goal.returns-clause-shows
returns-clause-shows c = show_is_line
