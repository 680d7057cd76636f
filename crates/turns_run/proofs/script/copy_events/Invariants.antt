-- The copies so far, and the events to come, are all events.
use Rattle.std.proofs.Common.{◌≡◌, ◌++◌, drop}
use Rattle.turns_run.proofs.script.copy_events.Given as goal

abbrev pub invariant-loop-event : goal.invariant-loop-event
invariant-loop-event l = l.copies.items ++ drop l.event-index l.events ≡ l.events
