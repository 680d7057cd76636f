-- The rows so far, and those of the places that are left, are all rows.
use Rattle.std.proofs.Common.{◌≡◌, ◌++◌, drop}
use Rattle.model.specs.Finishing.{reply_from, unseen_of_reply, rows_by_replies, rows_by_replies_from}
use Rattle.proxy_state.proofs.rows_by_replies.rows_by_replies.Given as goal

abbrev pub invariant-loop-place : goal.invariant-loop-place
invariant-loop-place l = l.rows.items ++ rows_by_replies_from l.resolvers l.replies l.place (drop l.place (unseen_of_reply (reply_from l.replies 0))) ≡ rows_by_replies l.resolvers l.replies
