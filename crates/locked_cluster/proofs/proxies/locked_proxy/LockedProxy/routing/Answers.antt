-- The routing is that of the records and cells of the lock.
use Rattle.std.proofs.Common.{◌≡◌, ◌∙◌, arith}
use Rattle.model.specs.Metadata.{metadata as metadata_of, routing}
use Rattle.locked_cluster.proofs.ProxyRoutings.{is_own_routing, shows_routing}
use Rattle.locked_cluster.proofs.proxies.locked_proxy.LockedProxy.routing.Goals as goal

pub noted_routing-requires : goal.noted_routing-requires
noted_routing-requires g c =
    let v = c.args.self.now in
    let version : c.version.result ≡ v.proxy.version = c.version.ensures.value in
    let entries : c.metadata.result.now ≡ metadata_of v.proxy.journal = c.metadata.ensures.value in
    is_own_routing g.N.Naming.cells.config v c.in_ok-routing.routing c.version.ensures.kept (c.in_ok-routing.ensures ∙ (λ i. routing (version i) (entries i)))

pub returns : goal.returns
returns g c =
    let v = c.args.self.now in
    let version : c.version.result ≡ v.proxy.version = c.version.ensures.value in
    let entries : c.metadata.result.now ≡ metadata_of v.proxy.journal = c.metadata.ensures.value in
    shows_routing v v.proxy.version v.proxy.journal c.in_ok-routing.routing c.in_ok-noted.noted (omega arith) (c.in_ok-routing.ensures ∙ (λ i. routing (version i) (entries i))) c.in_ok-noted.ensures
