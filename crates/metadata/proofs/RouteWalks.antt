-- The routes by a table of servers that gives the tags of entries are the routes.
use Rattle.std.proofs.Common.{◌≡◌, ◌∙◌, map}
use Rattle.model.specs.declared.routing.Route.{Route}
use Rattle.model.specs.Metadata.{Entry, Entries, IsInOrder, key_servers_entries, route_of}
use Rattle.metadata.specs.ServerTables.{ServerTags, GiveTags}
use Rattle.metadata.specs.Routes.{routes_by}
use Rattle.metadata.proofs.GatheredTags.{tags_gathered}
use Rattle.metadata.proofs.KeptTags.{own_tags}
use Rattle.metadata.proofs.RouteEntries.{routes_are}

-- all routes by a table of servers that gives their tags are the routes
pub all_routes : (servers : ServerTags) (entries : Entries) → IsInOrder entries → GiveTags servers entries → routes_by servers entries ≡ map (route_of entries) (key_servers_entries entries)
all_routes servers entries order give =
    (λ i. map (λ (row : Entry). let route : Route = record { key = row.0; tags = (tags_gathered servers entries row.1 give ∙ own_tags entries row) i } in route) (key_servers_entries entries))
    ∙ routes_are entries order
