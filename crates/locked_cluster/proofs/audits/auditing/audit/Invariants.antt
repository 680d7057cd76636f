-- The resolvers so far have come as far as the proxy.
use Rattle.std.proofs.Common.{take}
use Rattle.locked_cluster.specs.Audits.{HaveReached}
use Rattle.locked_cluster.proofs.audits.auditing.audit.Given as goal

abbrev pub invariant-loop-resolver : goal.invariant-loop-resolver
invariant-loop-resolver g l = HaveReached g.N.Naming.cells.config l.proxy (take l.resolver-index l.resolvers)
