-- The batch is refused, or may get a record.
use Rattle.std.proofs.Common.{arith}
use Rattle.turn_world.specs.Kept.{world_of}
use Rattle.turn_world.proofs.SequencedBatches.{no_proxy, no_version, limit_is, may_now}
use Rattle.turn_world.proofs.world.TurnWorld.check_sequence.Goals as goal

pub returns-then-proxies-proxy : goal.returns-then-proxies-proxy
returns-then-proxies-proxy c batch =
    let t = c.self.inside in
    no_proxy t.config (world_of t.rows.items t.moves t.judged_counts.items t.finished.items) c.args.self.now c.args.proxy batch c.self.view_is (omega (arith, c.proxies.ensures.value, c.if-proxies-proxy.true))

pub returns-then-self-step : goal.returns-then-self-step
returns-then-self-step c batch =
    let t = c.self.inside in
    no_version t.config (world_of t.rows.items t.moves t.judged_counts.items t.finished.items) c.args.self.now c.args.proxy t.last batch c.self.view_is (omega (arith, c.proxies.ensures.value, c.if-proxies-proxy.false)) c.self.invariant.0.last_is (omega (arith, c.step.ensures.value, c.if-self-step.true))

pub returns : goal.returns
returns c =
    let t = c.self.inside in
    let w = world_of t.rows.items t.moves t.judged_counts.items t.finished.items in
    may_now t.config w c.args.self.now c.args.proxy c.self.view_is (omega (arith, c.proxies.ensures.value, c.if-proxies-proxy.false))
    (limit_is t.config w t.last c.self.invariant.0.last_is (omega (arith, c.step.ensures.value, c.if-self-step.false)))
