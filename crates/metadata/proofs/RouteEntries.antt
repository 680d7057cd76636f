-- The route of a keyServers entry by its own value is its route, since the entry itself is the greatest at or before its key.
use Rattle.std.proofs.Common.{◌≡◌, refl, sym, ap, ◌∙◌, List, [], ◌∷◌, append-nil, map, flat_map, Option, Some, option_to_list, not, inl, inr}
use Rattle.system_keys.specs.declared.tag.Tag.{Tag}
use Rattle.model.specs.declared.routing.Route.{Route}
use Rattle.model.specs.Metadata.{Entry, Entries, IsInOrder, key_servers_entries, serving_entry, entry_tags, sorted_tags, tags, route_of}
use Rattle.system_keys.proofs.KeyOrder.{up_to_is, not_below_itself}
use Rattle.model.proofs.Members.{Has, Contains-from_Has}
use Rattle.model.proofs.Metadata.Routes.{from_serves, key_servers_in_order}

-- the route of a keyServers entry, with the tags of its own value
abbrev pub own_route : Entries → Entry → Route
own_route all row = record { key = row.0; tags = sorted_tags (entry_tags all row) }

-- ---- an entry serves its own key

serves_itself : (rows : Entries) (row : Entry) → IsInOrder rows → Has rows row → serving_entry rows row.0 ≡ Some row
serves_itself rows row s has =
    from_serves rows row.0 row s (record { there = Contains-from_Has rows row has; up_to = up_to_is row.0 row.0 ∙ ap not (not_below_itself row.0); greatest = λ other there up. up })

pub same_route : (rows : Entries) (row : Entry) → IsInOrder rows → Has (key_servers_entries rows) row → own_route rows row ≡ route_of rows row
unfolding tags
same_route rows row s has =
    let served : serving_entry (key_servers_entries rows) row.0 ≡ Some row = serves_itself (key_servers_entries rows) row (key_servers_in_order rows s) has in
    ap (λ (found : List Tag). let route : Route = record { key = row.0; tags = sorted_tags found } in route)
    (sym (append-nil (entry_tags rows row)) ∙ ap (λ (found : Option Entry). flat_map (entry_tags rows) (option_to_list found)) (sym served))

map_alike : {X Y : Type 0} (f g : X → Y) (all xs : List X) → ((x : X) → Has all x → f x ≡ g x) → ((x : X) → Has xs x → Has all x) → map f xs ≡ map g xs
map_alike f g all [] same among = refl
map_alike f g all (x ∷ xs) same among =
    let first : f x ≡ g x = same x (among x (inl refl)) in
    let rest : map f xs ≡ map g xs = map_alike f g all xs same (λ y has. among y (inr has)) in
    cc

-- the routes by their own values are the routes
pub routes_are : (rows : Entries) → IsInOrder rows → map (own_route rows) (key_servers_entries rows) ≡ map (route_of rows) (key_servers_entries rows)
routes_are rows s = map_alike (own_route rows) (route_of rows) (key_servers_entries rows) (key_servers_entries rows) (λ row has. same_route rows row s has) (λ row has. has)
