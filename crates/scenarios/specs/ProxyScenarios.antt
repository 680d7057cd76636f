-- What a proxy that is behind another one routes.
use Rattle.std.specs.Prelude.{◌≡◌, ℕ, List, [], ◌∷◌, ◌++◌, map, codes, false, None}
use Rattle.system_keys.specs.Keys.{Key}
use Rattle.model.specs.declared.routing.Route.{Route}
use Rattle.model.specs.Stamps.{Set, AdmittedTransaction}
use Rattle.model.specs.Metadata.{tags_of_key}
use Rattle.model.specs.World.{Event, Sequence, Finish, proxy_metadata, proxy_routing}
use Rattle.model.specs.declared.routing.Routing.{Routing}
use Rattle.model.specs.Examples.{cluster, m, n, mutating, tag, s1, s2, one_source, tag_row}
use Rattle.model.specs.Examples.{servers_row, version_row}
use Rattle.scenarios.specs.Vocabulary.{after, to_both, tag_bytes, route}

-- a transaction that gives a server the tag `0:id`, and that server the keys from one on
abbrev pub giving_keys : ℕ → Key → Key → AdmittedTransaction
giving_keys id server key =
    mutating
    (Set (tag_row server) (tag_bytes id) ∷ Set (servers_row key) (one_source server) ∷ [])

-- proxy 0 has finished the first record, and proxy 1 the second; nobody has finished the third
abbrev pub one_proxy_behind : List Event
one_proxy_behind =
    Sequence 0 (giving_keys 1 s1 [] ∷ []) ∷ Sequence 1 (giving_keys 2 s2 m ∷ [])
    ∷ Sequence 0 (mutating (Set version_row (codes "v") ∷ []) ∷ [])
    ∷ to_both 0 ++ to_both 1 ++ to_both 2 ++ Finish 0 ∷ Finish 1 ∷ []

-- an unlocked routing without a version of the metadata
abbrev pub routes_at : ℕ → List Route → Routing
routes_at version routes =
    record { version = version; locked = false; metadata_version = None; routes = routes }

-- each proxy routes at the version that it finished last, by the rows up to it: so the key `n` has
-- the tag of server 1 at proxy 0, and of server 2 at proxy 1
abbrev pub AProxyThatIsBehind : Type 0
AProxyThatIsBehind =
    (map (proxy_routing cluster (after cluster one_proxy_behind)) (0 ∷ 1 ∷ [])
    ≡ routes_at 10 (route [] (tag 1 ∷ []) ∷ [])
    ∷ routes_at 20 (route [] (tag 1 ∷ []) ∷ route m (tag 2 ∷ []) ∷ [])
    ∷ [])
    × (map (proxy_metadata cluster (after cluster one_proxy_behind)) (0 ∷ 1 ∷ [])
    ≡ ((servers_row [], one_source s1) ∷ (tag_row s1, tag_bytes 1) ∷ [])
    ∷ ((servers_row [], one_source s1)
    ∷ (servers_row m, one_source s2)
    ∷ (tag_row s1, tag_bytes 1)
    ∷ (tag_row s2, tag_bytes 2)
    ∷ [])
    ∷ [])
    × (tags_of_key (proxy_metadata cluster (after cluster one_proxy_behind) 0) n ≡ tag 1 ∷ [])
    × (tags_of_key (proxy_metadata cluster (after cluster one_proxy_behind) 1) n ≡ tag 2 ∷ [])
