-- The version that a proxy has acknowledged to a resolver, computed from requests alone. Release
-- 7.1, `Resolver.actor.cpp`, resolveBatch. The definition is `acknowledged` of World.antt, over
-- records; `acknowledged_version_law` says that this one agrees with it.
use Rattle.std.specs.Prelude.{List, map}
use Rattle.model.specs.Numbers.{Version, ProxyNumber}
use Rattle.model.specs.Requests.{Request, requests_of_proxy}
use Rattle.model.specs.World.{greatest}

-- the version that a proxy has acknowledged with these requests: the greatest `last_received` among
-- its requests, or 0
abbrev pub acknowledged_requests : (p : ProxyNumber) (judged : List Request) → Version
acknowledged_requests p judged =
    greatest (map (λ (q : Request). q.last_received) (requests_of_proxy p judged))
