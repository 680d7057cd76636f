use Rattle.session_run.proofs.RunLemmas.{runs_answer, runs_behind, runs_in_turn, runs_serial, status_tells_counts}
use Rattle.session_run.proofs.laws.runs_answer_law.Goals as goal

pub returns-clause-in_turn : goal.returns-clause-in_turn
returns-clause-in_turn c = runs_in_turn

pub returns-clause-input : goal.returns-clause-input
returns-clause-input c = runs_answer

pub returns-clause-never_ahead : goal.returns-clause-never_ahead
returns-clause-never_ahead c = runs_behind

pub returns-clause-serial : goal.returns-clause-serial
returns-clause-serial c = runs_serial

pub returns-clause-failures : goal.returns-clause-failures
returns-clause-failures c = status_tells_counts
