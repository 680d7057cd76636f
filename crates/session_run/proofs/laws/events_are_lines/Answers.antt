use Rattle.session_run.proofs.ShapeLemmas.{event_is_line}
use Rattle.session_run.proofs.laws.events_are_lines.Goals as goal

pub returns : goal.returns
returns c = event_is_line
