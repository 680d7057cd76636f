-- The finishes of the unfinished records so far are appended.
use Rattle.std.proofs.Common.{map, take}
use Rattle.turn_world.specs.Events.{event_of}
use Rattle.turn_world.proofs.EventsLeft.{AreWith}
use Rattle.turn_world.proofs.FinishesLeft.{finishes_of}
use Rattle.turn_world.proofs.world.TurnWorld.push_finishes.Given as goal

abbrev pub invariant-loop-row : goal.invariant-loop-row
invariant-loop-row l = AreWith (map event_of l.fn.events.items) (finishes_of l.self.world (take l.row l.self.world.history)) l.events.items
