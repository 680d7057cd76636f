-- Those that were looked at are locked.
use Rattle.std.proofs.Common.{◌≡◌, length}
use Rattle.threads_lines.specs.Guards.{AreProxiesKept}
use Rattle.threads_lines.proofs.cluster.lock_each_proxy.Given as goal

abbrev pub invariant-loop-proxy : goal.invariant-loop-proxy
invariant-loop-proxy g l = record {
  count : length l.guards.items ≡ l.proxy-index;
  kept : AreProxiesKept g.N.Naming.cells.config l.proxies l.guards.items;
}
