-- A Close was sent through each end.
use Rattle.std.proofs.Common.{◌≡◌, subst, rules}
use Rattle.inboxes.specs.Ends.{AreSenders, ProxyView}
use Rattle.workers.proofs.AskLemmas.{has_closed}
use Rattle.workers.proofs.proxy_inboxes.ProxyInboxes.close.Goals as goal

pub returns : goal.returns
returns g c =
    let resolvers = g.N.Naming.cells.config.resolvers in
    let after = c.send_closes.new.senders in
    let same : c.deref.result.now ≡ after = search rules in
    has_closed resolvers c.deref_mut.result.now after c.send_closes.ensures.proxy c.send_closes.ensures.sent
    (subst (λ (v : ProxyView). AreSenders v.proxy resolvers v.ends) same c.ends-ends.ensures.kept)
