use Rattle.model.proofs.Worlds.Finishes.{out_of_turn, missing_named, reply_is_kept, may_be_finished, replies_have_no_fault, finishes_as_world, finished_in_step}
use Rattle.model.proofs.laws.worlds.finish_keeps_step_law.Goals as goal

pub returns : goal.returns
returns c = record { turn = out_of_turn; missing = missing_named; kept = reply_is_kept; may = may_be_finished; fault = replies_have_no_fault; answer = finishes_as_world; finished = finished_in_step }
