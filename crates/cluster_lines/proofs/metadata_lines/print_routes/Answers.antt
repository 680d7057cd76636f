use Rattle.std.proofs.Common.{◌∙◌, ◌++◌, ap, sym, subst}
use Rattle.std.specs.Prelude.{flat_map, map}
use Rattle.pages.proofs.Prints.{Leaves, leaves_all, leaves_less, leaves_none}
use Rattle.model.specs.declared.routing.Route.{Route}
use Rattle.model.specs.Metadata.{key_servers_entries, route_of}
use Rattle.scripts.specs.Lines.{route_line}
use Rattle.cluster_lines.proofs.metadata_lines.print_routes.Goals as goal

pub loop-begin-init : goal.loop-begin-init
loop-begin-init g c =
    let whole = flat_map route_line (map (route_of c.args.metadata.now) (key_servers_entries c.args.metadata.now)) in
    subst (λ routes. Leaves g.P.Page.has_printed c.args.page.now c.args.page.now (flat_map route_line routes) whole) (sym c.routes-routes.ensures) (leaves_all c.args.page.now whole)

pub loop-begin-preserved : goal.loop-begin-preserved
loop-begin-preserved g c =
    let tags = sym (c.as_slice.ensures ∙ c.in_ok-list.ensures) in
    leaves_less c.loop-begin.invariant c.print_route.ensures
    (ap (flat_map route_line) c.in-Some.ensures
    ∙ (λ i. let route : Route = record { key = c.in-Some.begin.now; tags = tags i } in route_line route ++ flat_map route_line c.next.new.self))

pub returns : goal.returns
returns g c = leaves_none c.loop-begin.invariant (ap (flat_map route_line) c.in_default.ensures.0)
