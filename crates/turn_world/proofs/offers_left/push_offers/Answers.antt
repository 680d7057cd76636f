-- The offers of one row more.
use Rattle.std.proofs.Common.{map, ◌+◌, arith}
use Rattle.turn_world.specs.Events.{event_of}
use Rattle.turn_world.proofs.EventsLeft.{with_none, on_err, row_offered, row_due}
use Rattle.turn_world.proofs.offers_left.push_offers.Goals as goal

pub loop-row-init : goal.loop-row-init
loop-row-init c = with_none c.args.events.now.items

pub loop-row-preserved : goal.loop-row-preserved
loop-row-preserved c =
    let l = c.loop-row in
    row_offered (map event_of c.args.events.now.items) c.args.judged_counts.now l.row (l.row + 1) l.events.items c.push_offers_of_row.new.events.items (omega arith) c.in_ok-push_offers_of_row.ensures.ok l.invariant

pub returns-in_err-push_offers_of_row-clause-err : goal.returns-in_err-push_offers_of_row-clause-err
returns-in_err-push_offers_of_row-clause-err c = on_err c.from_residual.result (row_due c.args.judged_counts.now c.args.rows c.loop-row.row c.loop-row-test.true c.in_err-push_offers_of_row.ensures.err)
