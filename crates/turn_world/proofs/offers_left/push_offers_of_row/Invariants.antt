-- The offers to the resolvers so far are appended.
use Rattle.std.proofs.Common.{map}
use Rattle.turn_world.specs.Events.{event_of}
use Rattle.turn_world.proofs.EventsLeft.{AreWith, offers_below}
use Rattle.turn_world.proofs.offers_left.push_offers_of_row.Given as goal

abbrev pub invariant-loop-resolver : goal.invariant-loop-resolver
invariant-loop-resolver l = AreWith (map event_of l.fn.events.items) (offers_below l.judged_counts l.row l.resolver) l.events.items
