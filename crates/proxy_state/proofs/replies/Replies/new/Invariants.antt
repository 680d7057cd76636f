-- There are as many empty places as turns of the loop so far.
use Rattle.std.proofs.Common.{◌≡◌, ◌≤◌, None, replicate}
use Rattle.proxy_state.proofs.replies.Replies.new.Given as goal

abbrev pub invariant-loop : goal.invariant-loop
invariant-loop l = (l.places.items ≡ replicate l.counter None) × (l.counter ≤ l.end)
