-- The states before i have their verdicts, and those from i on have none.
use Rattle.std.proofs.Common.{◌≡◌, ◌++◌, [], map, take, drop}
use Rattle.model.specs.Requests.{reply_state_of_mark}
use Rattle.state_memory.proofs.rows.judge_states.Given as goal

abbrev pub invariant-loop-i : goal.invariant-loop-i
invariant-loop-i l =
    l.states.items
    ≡ map (reply_state_of_mark l.request.share l.verdicts) (take l.i l.request.states)
    ++ map (reply_state_of_mark [] []) (drop l.i l.request.states)
