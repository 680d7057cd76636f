-- The routing of a proxy is at the proxy's version, and of the proxy's metadata. *Profile*: all of
-- it.
use Rattle.std.specs.Prelude.{◌≡◌, ◌<◌, [], fold, slice_get, slice_index, Some}
use Rattle.model.specs.Numbers.{ProxyNumber}
use Rattle.model.specs.Configs.{Config, IsConfig}
use Rattle.model.specs.Records.{Record, records_of_proxy}
use Rattle.model.specs.Shares.{each_below}
use Rattle.model.specs.Metadata.{after_journal_row, routing}
use Rattle.model.specs.World.{World, Event, Finish, IsSound, missing_replies, handle_event}
use Rattle.model.specs.World.{finished_version, proxy_journal, proxy_routing}

-- the routing of a proxy is that of the fold of its journal, at the last version that it finished
abbrev pub RoutingIsOfItsJournal : Type 0
RoutingIsOfItsJournal =
    (config : Config) (w : World) (p : ProxyNumber)
    → proxy_routing config w p
    ≡ routing (finished_version w p) (fold after_journal_row [] (proxy_journal config w p))

-- only an event that finishes a record of the proxy changes the proxy's routing
abbrev pub OnlyItsFinishChangesTheRouting : Type 0
OnlyItsFinishChangesTheRouting =
    (config : Config) (w : World) (event : Event) (p : ProxyNumber)
    → IsConfig config → IsSound config w → ¬ (event ≡ Finish p)
    → proxy_routing config (handle_event config w event).world p ≡ proxy_routing config w p

-- once a proxy has finished a record, its routing is at the version of that record
abbrev pub AFinishBringsItsVersion : Type 0
AFinishBringsItsVersion =
    (config : Config) (w : World) (p : ProxyNumber) (rec : Record)
    → IsSound config w → p < config.proxies
    → slice_get (records_of_proxy p w.history) (slice_index w.finished p) ≡ Some rec
    → missing_replies w rec.row (each_below config.resolvers) ≡ []
    → (proxy_routing config (handle_event config w (Finish p)).world p).version ≡ rec.version
