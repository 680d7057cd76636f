-- The table gives the tags of the entries.
use Rattle.std.proofs.Common.{◌∙◌, ap}
use Rattle.metadata.specs.Routes.{routes_by}
use Rattle.metadata.proofs.MetadataServers.{servers_give_tags}
use Rattle.metadata.proofs.RouteWalks.{all_routes}
use Rattle.metadata.proofs.route_walk.RouteWalk.new.Goals as goal

pub returns : goal.returns
returns c =
    ap (routes_by c.args.servers.now.tags) c.iter.ensures.entries
    ∙ all_routes c.args.servers.now.tags c.args.entries.now c.iter.ensures.order (servers_give_tags c.args.entries.now c.args.servers.now.tags c.requires)
