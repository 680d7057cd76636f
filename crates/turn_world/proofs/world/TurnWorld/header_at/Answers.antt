-- The numbers of the record, as they are kept or follow from its row.
use Rattle.std.proofs.Common.{◌≡◌, ◌+◌, ◌*◌, ◌<◌, ℕ, refl, sym, ap, subst, length, slice_get, Some, arith}
use Rattle.model.specs.Records.{Record}
use Rattle.model.specs.Offers.{sent_request}
use Rattle.model.specs.Turns.{TurnCluster}
use Rattle.request_builder.specs.declared.header.RequestHeader.{RequestHeader}
use Rattle.turn_world.specs.Kept.{world_of, requests_of}
use Rattle.turn_world.specs.KeptRequests.{HasNumbersOf, bare_request}
use Rattle.turn_world.proofs.FinishesLeft.{rows_are}
use Rattle.turn_world.proofs.OfferedParts.{got}
use Rattle.turn_world.proofs.RowNumbers.{row_fits, header_is}
use Rattle.turn_world.proofs.world.TurnWorld.header_at.Goals as goal

pub index-one-requires : goal.index-one-requires
index-one-requires c =
    let t = c.self.inside in
    let w = world_of t.rows.items t.moves t.judged_counts.items t.finished.items in
    omega (arith, c.requires, rows_are t.config t.rows.items w c.args.self.now refl c.self.view_is)

pub overflow_mul-previous : goal.overflow_mul-previous
overflow_mul-previous c =
    let t = c.self.inside in
    let w = world_of t.rows.items t.moves t.judged_counts.items t.finished.items in
    let fits = row_fits t.config w c.args.row t.resolvers.items t.proxies.items (requests_of t.rows.items) t.last c.self.invariant.0 (subst (λ (now : TurnCluster). c.args.row < length now.world.history) (sym c.self.view_is) c.requires) in
    let step : c.step.result ≡ t.config.step = c.step.ensures.value in
    let same : c.args.row * c.step.result ≡ c.args.row * t.config.step = ap (λ (n : ℕ). c.args.row * n) step in
    omega (arith, fits, same)

pub overflow_add-result : goal.overflow_add-result
overflow_add-result c =
    let t = c.self.inside in
    let w = world_of t.rows.items t.moves t.judged_counts.items t.finished.items in
    let fits = row_fits t.config w c.args.row t.resolvers.items t.proxies.items (requests_of t.rows.items) t.last c.self.invariant.0 (subst (λ (now : TurnCluster). c.args.row < length now.world.history) (sym c.self.view_is) c.requires) in
    let step : c.step.result ≡ t.config.step = c.step.ensures.value in
    let same : c.args.row * c.step.result ≡ c.args.row * t.config.step = ap (λ (n : ℕ). c.args.row * n) step in
    omega (arith, fits, same, c.step-2.ensures.value)

pub returns : goal.returns
returns c =
    let t = c.self.inside in
    let w = world_of t.rows.items t.moves t.judged_counts.items t.finished.items in
    let many = rows_are t.config t.rows.items w c.args.self.now refl c.self.view_is in
    let at = got t.rows.items c.args.row c.index-one.result.now (omega (arith, c.requires, many)) c.index-one.ensures in
    let step : c.step.result ≡ t.config.step = c.step.ensures.value in
    let header : RequestHeader = record { resolver = c.args.resolver; proxy = c.index-one.result.now.proxy; row = c.args.row; previous = c.args.row * c.step.result; version = c.args.row * c.step.result + c.step-2.result; last_received = c.index-one.result.now.received } in
    subst (λ (now : TurnCluster). (rec : Record) → slice_get now.world.history c.args.row ≡ Some rec → HasNumbersOf (sent_request now.config now.world c.args.resolver rec) (bare_request header)) c.self.view_is
    (header_is t.config w t.rows.items c.args.row c.args.resolver (c.args.row * c.step.result) (c.args.row * c.step.result + c.step-2.result) c.index-one.result.now t.resolvers.items t.proxies.items (requests_of t.rows.items) t.last refl refl c.self.invariant.0 at (c.self.invariant.1 c.args.row c.index-one.result.now at).proxy (ap (λ (n : ℕ). c.args.row * n) step) (ap (λ (n : ℕ). c.args.row * c.step.result + n) c.step-2.ensures.value))
