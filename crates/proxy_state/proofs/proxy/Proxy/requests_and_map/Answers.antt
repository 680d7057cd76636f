-- The proxy's own map, which stands for the moves of the record, asks for it.
use Rattle.std.proofs.Common.{sym, subst}
use Rattle.model.specs.Finishing.{ProxyView}
use Rattle.proxy_state.specs.Beginning.{HasMapFor}
use Rattle.proxy_state.proofs.KeptProxies.{own_asks}
use Rattle.proxy_state.proofs.proxy.Proxy.requests_and_map.Goals as goal

pub requests_by_map-requires-in-None : goal.requests_by_map-requires-in-None
requests_by_map-requires-in-None c =
    own_asks c.map_with_moves.new.self.config c.args.rec.now c.in_ok-map-in-None.map
    (subst (λ (v : ProxyView). HasMapFor v.config c.args.rec.now c.in_ok-map-in-None.map) (sym c.in_ok-map-in-None.ensures.same) c.in_ok-map-in-None.ensures.map)
