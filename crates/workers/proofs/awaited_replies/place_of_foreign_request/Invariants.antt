-- The requests so far are the proxy's.
use Rattle.std.proofs.Common.{◌≡◌, ◌<◌, ℕ, slice_get, Some}
use Rattle.locked_resolvers.specs.Requests.{RequestView}
use Rattle.workers.proofs.awaited_replies.place_of_foreign_request.Given as goal

abbrev pub invariant-loop-place : goal.invariant-loop-place
invariant-loop-place g l = (k : ℕ) (q : RequestView) → k < l.place → slice_get l.requests k ≡ Some q → q.plain.proxy ≡ l.proxy
