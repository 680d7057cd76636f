-- Those that were looked at are locked.
use Rattle.std.proofs.Common.{◌≡◌, length}
use Rattle.threads_lines.specs.Guards.{AreResolversKept}
use Rattle.threads_lines.proofs.cluster.lock_each_resolver.Given as goal

abbrev pub invariant-loop-resolver : goal.invariant-loop-resolver
invariant-loop-resolver g l = record {
  count : length l.guards.items ≡ l.resolver-index;
  kept : AreResolversKept g.N.Naming.cells.config l.resolvers l.guards.items;
}
