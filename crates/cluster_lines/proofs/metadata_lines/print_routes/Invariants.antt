use Rattle.std.proofs.Common.{length}
use Rattle.std.specs.Prelude.{flat_map, map}
use Rattle.pages.proofs.Prints.{Leaves}
use Rattle.model.specs.Metadata.{key_servers_entries, route_of}
use Rattle.scripts.specs.Lines.{route_line}
use Rattle.cluster_lines.proofs.metadata_lines.print_routes.Given as goal

abbrev pub invariant-loop-begin : goal.invariant-loop-begin
invariant-loop-begin g l =
    Leaves g.P.Page.has_printed l.fn.page l.page (flat_map route_line l.routes) (flat_map route_line (map (route_of l.metadata) (key_servers_entries l.metadata)))

abbrev pub decreases-loop-begin : goal.decreases-loop-begin
decreases-loop-begin g l = length l.routes
