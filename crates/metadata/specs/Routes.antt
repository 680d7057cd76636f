-- The routes of entries by a table of servers: those of the model, if the entries are in order and the table gives their tags.
use Rattle.std.specs.Prelude.{List, map}
use Rattle.model.specs.declared.routing.Route.{Route}
use Rattle.model.specs.Metadata.{Entry, Entries, key_servers_entries}
use Rattle.metadata.specs.CachedTags.{names_by}
use Rattle.metadata.specs.ServerTables.{ServerTags, tags_named}

-- the route of a keyServers entry, with the tags that a table of servers gives it
abbrev pub route_by : ServerTags → Entry → Route
route_by servers row = record { key = row.0; tags = tags_named servers (names_by row.1) }

-- the routes of the keyServers entries among some of the entries, by a table of servers
abbrev pub routes_by : ServerTags → Entries → List Route
routes_by servers rows = map (route_by servers) (key_servers_entries rows)
