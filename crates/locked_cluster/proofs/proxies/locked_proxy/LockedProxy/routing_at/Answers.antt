-- The routing is that of the records and cells of the lock.
use Rattle.std.proofs.Common.{◌∙◌, ap, subst, ◌≤◌}
use Rattle.model.specs.Metadata.{metadata as metadata_of, routing}
use Rattle.proxy_state.specs.Beginning.{rows_up_to}
use Rattle.locked_cluster.specs.Answers.{IsNotedRouting}
use Rattle.locked_cluster.specs.Proxies.{LockedProxyView}
use Rattle.locked_cluster.proofs.ProxyRoutings.{is_routing, shows_routing}
use Rattle.locked_cluster.proofs.proxies.locked_proxy.LockedProxy.routing_at.Goals as goal

pub noted_routing-requires : goal.noted_routing-requires
noted_routing-requires g c =
    let s = c.self.inside in
    let v : LockedProxyView = record { proxy = s.proxy; records = s.records.known; columns = s.columns } in
    let is = c.in_ok-routing.ensures ∙ ap (routing c.args.version) c.in-Ok.ensures.value.1 in
    subst (λ (u : LockedProxyView). IsNotedRouting g.N.Naming.cells.config (record { routing = c.in_ok-routing.routing; records = u.records; columns = u.columns })) c.self.view_is
    (is_routing g.N.Naming.cells.config v c.args.version c.in_ok-routing.routing c.self.invariant.2 c.in-Ok.ensures.value.0 is)

pub returns-clause-shown : goal.returns-clause-shown
returns-clause-shown g c =
    let s = c.self.inside in
    let v : LockedProxyView = record { proxy = s.proxy; records = s.records.known; columns = s.columns } in
    let u = c.args.self.now in
    let is = c.in_ok-routing.ensures ∙ ap (routing c.args.version) c.in-Ok.ensures.value.1 ∙ ap (λ (w : LockedProxyView). routing c.args.version (metadata_of (rows_up_to c.args.version w.proxy.journal))) c.self.view_is in
    let reached : c.args.version ≤ u.proxy.version = subst (λ (w : LockedProxyView). c.args.version ≤ w.proxy.version) c.self.view_is c.in-Ok.ensures.value.0 in
    shows_routing u c.args.version (rows_up_to c.args.version u.proxy.journal) c.in_ok-routing.routing c.in_ok-noted.noted reached is c.in_ok-noted.ensures
