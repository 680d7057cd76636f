-- The finish of one record more, if its proxy has not finished it.
use Rattle.std.proofs.Common.{◌≡◌, ◌+◌, ◌<◌, refl, length, map, arith, rules}
use Rattle.model.proofs.History.Chain.{element_at}
use Rattle.turn_world.specs.Events.{event_of}
use Rattle.turn_world.specs.Kept.{world_of}
use Rattle.turn_world.specs.declared.event.Event.TheVariants as events
use Rattle.turn_world.proofs.EventsLeft.{with_none, on_err}
use Rattle.turn_world.proofs.FinishesLeft.{rows_are, one_finish, no_finish, finish_due}
use Rattle.turn_world.proofs.world.TurnWorld.push_finishes.Goals as goal

pub loop-row-init : goal.loop-row-init
loop-row-init c = with_none c.args.events.now.items

pub unfinished_proxy_at-requires : goal.unfinished_proxy_at-requires
unfinished_proxy_at-requires c =
    let t = c.self.inside in
    let w = world_of t.rows.items t.moves t.judged_counts.items t.finished.items in
    let many : c.len-row-end.result ≡ length t.rows.items = search rules in
    omega (arith, many, c.loop-row-test.true, rows_are t.config t.rows.items w c.args.self.now refl c.self.view_is)

pub returns-in_err-push-clause-err : goal.returns-in_err-push-clause-err
returns-in_err-push-clause-err c =
    let t = c.self.inside in
    let w = world_of t.rows.items t.moves t.judged_counts.items t.finished.items in
    let many : c.len-row-end.result ≡ length t.rows.items = search rules in
    let within : c.loop-row.row < length c.args.self.now.world.history = omega (arith, many, c.loop-row-test.true, rows_are t.config t.rows.items w c.args.self.now refl c.self.view_is) in
    let found = element_at c.args.self.now.world.history c.loop-row.row within in
    on_err c.from_residual.result (finish_due c.args.self.now.world c.loop-row.row found.0 found.1 (c.in-Some.ensures found.0 found.1).1)

pub loop-row-preserved : goal.loop-row-preserved
loop-row-preserved c =
    let t = c.self.inside in
    let w = world_of t.rows.items t.moves t.judged_counts.items t.finished.items in
    let many : c.len-row-end.result ≡ length t.rows.items = search rules in
    let now = c.args.self.now in
    let l = c.loop-row in
    let within : l.row < length now.world.history = omega (arith, many, c.loop-row-test.true, rows_are t.config t.rows.items w now refl c.self.view_is) in
    let found = element_at now.world.history l.row within in
    one_finish now.world (map event_of c.args.events.now.items) l.row (l.row + 1) found.0 l.events.items c.push.new.self.items (events.Finish c.in-Some.proxy) c.in-Some.proxy (omega arith) found.1 refl c.in_ok-push.ensures.items (c.in-Some.ensures found.0 found.1) l.invariant

pub loop-row-preserved-in_default : goal.loop-row-preserved-in_default
loop-row-preserved-in_default c =
    let t = c.self.inside in
    let w = world_of t.rows.items t.moves t.judged_counts.items t.finished.items in
    let many : c.len-row-end.result ≡ length t.rows.items = search rules in
    let now = c.args.self.now in
    let l = c.loop-row in
    let within : l.row < length now.world.history = omega (arith, many, c.loop-row-test.true, rows_are t.config t.rows.items w now refl c.self.view_is) in
    let found = element_at now.world.history l.row within in
    no_finish now.world (map event_of c.args.events.now.items) l.row (l.row + 1) found.0 l.events.items (omega arith) found.1 (c.in_default.ensures found.0 found.1) l.invariant
