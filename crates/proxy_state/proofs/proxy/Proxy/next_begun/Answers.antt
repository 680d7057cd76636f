-- The first of the begun records, whose replies do not disagree.
use Rattle.std.proofs.Common.{ap, sym, refl, rules}
use Rattle.std.proofs.lemmas.Option.{slice_get_read}
use Rattle.model.specs.Finishing.{ProxyView}
use Rattle.proxy_state.proofs.FinishedProxies.{replied_first}
use Rattle.proxy_state.proofs.proxy.Proxy.next_begun.Goals as goal

pub returns-in-None-clause-replied : goal.returns-in-None-clause-replied
returns-in-None-clause-replied c =
    replied_first c.self.inside.config _ _ _ c.self.inside.begun.items _ _ c.args.self.now c.args.replies.now c.in-Some.begun.now c.self.invariant (sym (ap (λ (v : ProxyView). v.config) c.self.view_is)) (sym (ap (λ (v : ProxyView). v.version) c.self.view_is)) (sym (ap (λ (v : ProxyView). v.begun) c.self.view_is)) c.resolvers.ensures.limits.resolvers.0 (slice_get_read c.self.inside.begun.items _ 0 c.in-Some.begun.now refl c.in-Some.ensures.item.3.0 c.in-Some.ensures.item.1) (search rules)
