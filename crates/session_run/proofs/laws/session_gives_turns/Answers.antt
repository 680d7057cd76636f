use Rattle.session_run.proofs.TurnsScriptLemmas.{session_is_turns}
use Rattle.session_run.proofs.laws.session_gives_turns.Goals as goal

pub returns : goal.returns
returns c = session_is_turns
