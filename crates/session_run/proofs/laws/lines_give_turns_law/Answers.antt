use Rattle.session_run.proofs.TurnsScriptLemmas.{script_answered}
use Rattle.session_run.proofs.laws.lines_give_turns_law.Goals as goal

pub returns : goal.returns
returns c = script_answered
