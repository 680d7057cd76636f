-- The routes of the entries that are left are those that were to come.
use Rattle.std.proofs.Common.{◌≡◌, length}
use Rattle.metadata.specs.Routes.{routes_by}
use Rattle.metadata.proofs.route_walk.RouteWalk.next.Given as goal

abbrev pub invariant-loop-key : goal.invariant-loop-key
invariant-loop-key l = routes_by l.self-inside.servers.now.tags l.self-inside.entries ≡ l.fn.self

abbrev pub decreases-loop-key : goal.decreases-loop-key
decreases-loop-key l = length l.self-inside.entries
