-- The states so far are those of the marks so far.
use Rattle.std.proofs.Common.{◌≡◌, [], map, take}
use Rattle.model.specs.Requests.{reply_state_of_mark}
use Rattle.state_memory.proofs.rows.unjudged_states.Given as goal

abbrev pub invariant-loop-mark : goal.invariant-loop-mark
invariant-loop-mark l = l.states.items ≡ map (reply_state_of_mark [] []) (take l.mark-index l.request.states)
