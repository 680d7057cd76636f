-- What is still to be printed, and the world that the events left will make.
use Rattle.std.proofs.Common.{◌≡◌, ◌++◌, length, map}
use Rattle.std.specs.Prelude.{string_bytes}
use Rattle.std.specs.Vec.Iter.{into_iter_items, into_iter_len}
use Rattle.model.specs.World.{answers, world_after}
use Rattle.turn_world.specs.Events.{event_of}
use Rattle.turns_run.specs.Lines.{events_text}
use Rattle.turns_run.proofs.event_lines.carry_out_events.Given as goal

abbrev pub invariant-loop-event : goal.invariant-loop-event
invariant-loop-event l =
    let left = map event_of (into_iter_items l.event-iterator) in
    let all = map event_of l.fn.events in
    let config = l.fn.world.config in
    (l.world.config ≡ config)
    × (string_bytes l.text ++ events_text left (answers config l.world.world left)
    ≡ string_bytes l.fn.text ++ events_text all (answers config l.fn.world.world all))
    × (world_after config l.world.world left ≡ world_after config l.fn.world.world all)
    × (into_iter_len l.event-iterator ≡ length (into_iter_items l.event-iterator))
