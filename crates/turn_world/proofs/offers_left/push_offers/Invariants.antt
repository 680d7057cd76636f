-- The offers of the rows so far are appended.
use Rattle.std.proofs.Common.{map}
use Rattle.turn_world.specs.Ending.{offers_missing}
use Rattle.turn_world.specs.Events.{event_of}
use Rattle.turn_world.proofs.EventsLeft.{AreWith}
use Rattle.turn_world.proofs.offers_left.push_offers.Given as goal

abbrev pub invariant-loop-row : goal.invariant-loop-row
invariant-loop-row l = AreWith (map event_of l.fn.events.items) (offers_missing l.judged_counts l.row) l.events.items
