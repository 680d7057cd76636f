use Rattle.session_run.proofs.TurnsScriptLemmas.{lines_answered}
use Rattle.session_run.proofs.laws.lines_in_order_give_turns.Goals as goal

pub returns : goal.returns
returns c = lines_answered
