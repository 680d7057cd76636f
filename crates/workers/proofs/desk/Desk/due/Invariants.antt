-- The turn of no request so far has come.
use Rattle.std.proofs.Common.{◌≡◌, ◌<◌, ℕ, slice_get, Some}
use Rattle.locked_resolvers.specs.Requests.{RequestView}
use Rattle.workers.proofs.desk.Desk.due.Given as goal

abbrev pub invariant-loop-place : goal.invariant-loop-place
invariant-loop-place g l = (k : ℕ) (q : RequestView) → k < l.place → slice_get l.held-items k ≡ Some q → l.next < q.plain.row
