-- The routes so far, and those that are left, are those that were to come.
use Rattle.std.proofs.Common.{◌≡◌, ◌++◌, length}
use Rattle.metadata.proofs.route_walk.RouteWalk.list.Given as goal

abbrev pub invariant-loop-begin : goal.invariant-loop-begin
invariant-loop-begin l = l.routes.items ++ l.left ≡ l.fn.self

abbrev pub decreases-loop-begin : goal.decreases-loop-begin
decreases-loop-begin l = length l.left
