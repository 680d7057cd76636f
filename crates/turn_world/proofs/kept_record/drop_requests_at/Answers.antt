-- The row is the one that was found.
use Rattle.turn_world.proofs.DroppedRequests.{requests_dropped}
use Rattle.turn_world.proofs.OfferedParts.{got}
use Rattle.turn_world.proofs.kept_record.drop_requests_at.Goals as goal

pub returns-in-Some : goal.returns-in-Some
returns-in-Some c =
    let at = got c.args.rows.now.items c.args.row c.in-Some.one.now c.in-Some.ensures.item.3.0 c.in-Some.ensures.item.1 in
    requests_dropped c.args.rows.now.items c.args.row c.in-Some.one.now (record { requests = c.new.result }) at c.new.ensures.items
