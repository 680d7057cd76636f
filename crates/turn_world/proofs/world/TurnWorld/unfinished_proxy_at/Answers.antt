-- The record of the row, by the numbers of the request for it.
use Rattle.std.proofs.Common.{◌∙◌, ◌<◌, refl, ap, length, arith}
use Rattle.turn_world.specs.Kept.{world_of, requests_of}
use Rattle.turn_world.specs.KeptRequests.{bare_request}
use Rattle.turn_world.proofs.OfferedParts.{got}
use Rattle.turn_world.proofs.FinishesLeft.{known_row, version_is, told_unfinished, told_finished}
use Rattle.turn_world.proofs.world.TurnWorld.unfinished_proxy_at.Goals as goal

pub index-requires : goal.index-requires
index-requires c =
    let t = c.self.inside in
    let w = world_of t.rows.items t.moves t.judged_counts.items t.finished.items in
    let known = known_row t.config w c.args.self.now c.args.row (bare_request c.header_at-header.result) t.resolvers.items t.proxies.items (requests_of t.rows.items) t.last c.self.view_is c.self.invariant.0 c.requires c.header_at-header.ensures in
    omega (arith, known.there, ap (λ now. now.config.proxies) c.self.view_is, c.self.invariant.0.parts.proxy_count)

pub returns-then-version-header : goal.returns-then-version-header
returns-then-version-header c rec at_rec =
    let t = c.self.inside in
    let w = world_of t.rows.items t.moves t.judged_counts.items t.finished.items in
    let q = bare_request c.header_at-header.result in
    let known = known_row t.config w c.args.self.now c.args.row q t.resolvers.items t.proxies.items (requests_of t.rows.items) t.last c.self.view_is c.self.invariant.0 c.requires c.header_at-header.ensures in
    let there : c.header_at-header.result.proxy < length t.proxies.items = omega (arith, known.there, ap (λ now. now.config.proxies) c.self.view_is, c.self.invariant.0.parts.proxy_count) in
    let at_v = got t.proxies.items c.header_at-header.result.proxy c.index.result.now there c.index.ensures in
    let version = c.version.ensures ∙ version_is t.config w c.args.self.now c.header_at-header.result.proxy c.index.result.now t.resolvers.items t.proxies.items (requests_of t.rows.items) t.last c.self.view_is c.self.invariant.0 at_v in
    told_unfinished c.args.self.now c.args.row q c.header_at-header.result.proxy c.version.result c.header_at-header.result.version known refl version refl c.if-version-header.true rec at_rec

pub returns-else-version-header : goal.returns-else-version-header
returns-else-version-header c rec at_rec =
    let t = c.self.inside in
    let w = world_of t.rows.items t.moves t.judged_counts.items t.finished.items in
    let q = bare_request c.header_at-header.result in
    let known = known_row t.config w c.args.self.now c.args.row q t.resolvers.items t.proxies.items (requests_of t.rows.items) t.last c.self.view_is c.self.invariant.0 c.requires c.header_at-header.ensures in
    let there : c.header_at-header.result.proxy < length t.proxies.items = omega (arith, known.there, ap (λ now. now.config.proxies) c.self.view_is, c.self.invariant.0.parts.proxy_count) in
    let at_v = got t.proxies.items c.header_at-header.result.proxy c.index.result.now there c.index.ensures in
    let version = c.version.ensures ∙ version_is t.config w c.args.self.now c.header_at-header.result.proxy c.index.result.now t.resolvers.items t.proxies.items (requests_of t.rows.items) t.last c.self.view_is c.self.invariant.0 at_v in
    told_finished c.args.self.now c.args.row q c.header_at-header.result.proxy c.version.result c.header_at-header.result.version known refl version refl c.if-version-header.false rec at_rec
