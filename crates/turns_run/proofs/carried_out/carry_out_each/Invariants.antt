use Rattle.std.proofs.Common.{◌≡◌, List, length}
use Rattle.std.specs.Prelude.{Ok, string_bytes}
use Rattle.scripts.specs.Checks.{each_checked}
use Rattle.scripts.proofs.StreamListLemmas.{SoFar}
use Rattle.turn_world.specs.declared.event.Event.{Event}
use Rattle.turns_run.specs.Checks.{checked_event}
use Rattle.turns_run.specs.Shapes.{event_shape}
use Rattle.turns_run.specs.declared.script.RawEvent.{RawEvent}
use Rattle.turns_run.proofs.CarryingOutLemmas.{SoFarCarriedOut}
use Rattle.turns_run.proofs.carried_out.carry_out_each.Given as goal

abbrev pub invariant-events : goal.invariant-events
invariant-events l = (raws : List RawEvent) × (events : List Event)
    × SoFar event_shape l.depth l.initial.reader raws l.reader
    × (each_checked checked_event raws ≡ Ok events)
    × SoFarCarriedOut events (string_bytes l.initial.text) l.initial.world (string_bytes l.text) l.world

abbrev pub decreases-events : goal.decreases-events
decreases-events l = length l.reader
