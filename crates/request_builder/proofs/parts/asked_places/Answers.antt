-- The place of one more range is added, or passed.
use Rattle.std.proofs.Common.{arith}
use Rattle.request_builder.proofs.AskedPlaces.{still_within, stepped}
use Rattle.request_builder.proofs.parts.asked_places.Goals as goal

pub loop-place-preserved : goal.loop-place-preserved
loop-place-preserved c =
    record {
      within = still_within c.args.ranges.now c.loop-place.places c.push_if_asked.new.places c.loop-place.place c.is_asked.result (omega (arith, c.loop-place-test.true)) c.loop-place.invariant.within c.in_ok-push_if_asked.ensures;
      chosen = stepped c.args.resolver c.loop-place.place c.args.ranges.now c.args.sets.now c.loop-place.places c.push_if_asked.new.places c.is_asked.result (omega (arith, c.loop-place-test.true)) c.loop-place.invariant.chosen c.is_asked.ensures c.in_ok-push_if_asked.ensures;
    }
