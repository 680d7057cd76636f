-- The state transactions so far, and those that are left, are all of the row.
use Rattle.std.proofs.Common.{◌≡◌, ◌++◌, drop}
use Rattle.model.specs.Finishing.{states_by_replies_from}
use Rattle.proxy_state.proofs.rows_by_replies.row_by_replies.Given as goal

abbrev pub invariant-loop-number : goal.invariant-loop-number
invariant-loop-number l = l.told.items ++ states_by_replies_from l.resolvers l.replies l.place l.number (drop l.number l.states) ≡ states_by_replies_from l.resolvers l.replies l.place 0 l.states
