-- The record of the ticket is among its records.
use Rattle.locked_cluster.proofs.ProxyBegins.{row_is_there}
use Rattle.locked_cluster.proofs.proxies.locked_proxy.LockedProxy.begin.Goals as goal

pub unreachable-requires : goal.unreachable-requires
unreachable-requires g c = row_is_there g.N.Naming.cells.config c.args.ticket c.records.result.now c.row-row.result c.row-row.ensures.kept c.records.ensures.value c.row-row.ensures.value c.in_default.ensures
