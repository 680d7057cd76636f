-- What events come to that are carried out one after another (this project's profile).
use Rattle.std.specs.Prelude.{◌≡◌, ◌++◌, ℕ, List, map, Ok, string_bytes}
use Rattle.serde_json.specs.Data.{Data}
use Rattle.model.specs.Turns.{TurnCluster, after_event}
use Rattle.model.specs.World.{answers, handle_event, initial_world, world_after}
use Rattle.scripts.specs.Checks.{each_checked}
use Rattle.scripts.specs.Scripts.{checked_raw}
use Rattle.turn_world.specs.Events.{event_of}
use Rattle.turn_world.specs.declared.event.Event.{Event}
use Rattle.turns_run.specs.Checks.{checked_event, checked_script}
use Rattle.turns_run.specs.Lines.{event_text, events_text}
use Rattle.turns_run.specs.Shapes.{script_shape}
use Rattle.turns_run.specs.Text.{printed_text}
use Rattle.turns_run.specs.declared.script.RawEvent.{RawEvent}
use Rattle.turns_run.specs.declared.script.TurnsScript.{TurnsScript}
use Rattle.turns_run.specs.declared.text.TurnsText.{TurnsText}

-- the cluster carried out the event, and its lines were printed after the text
pub record IsNextCarriedOut (event : Event) (old : List ℕ) (before : TurnCluster) (new : List ℕ)
    (after : TurnCluster) : Type 0 where
  pub printed : new ≡ old ++ event_text (event_of event)
      (handle_event before.config before.world (event_of event)).answer
  pub carried_out : after ≡ after_event before (event_of event)

-- the cluster carried out the events, and their lines were printed after the text
pub record AreCarriedOutFrom (events : List Event) (old : List ℕ) (before : TurnCluster)
    (new : List ℕ) (after : TurnCluster) : Type 0 where
  pub printed : let given = map event_of events in
      new ≡ old ++ events_text given (answers before.config before.world given)
  pub carried_out : after ≡ record before {
    world = world_after before.config before.world (map event_of events);
  }

-- a new cluster carried out the events, of which none has a fault, and their lines were printed
abbrev pub AreCarriedOut : List RawEvent → List ℕ → TurnCluster → Type 0
AreCarriedOut raws text after =
    let config = after.config in
    let w = initial_world config in
    (events : List Event) × (each_checked checked_event raws ≡ Ok events)
    × (text ≡ events_text (map event_of events) (answers config w (map event_of events)))
    × (after ≡ record { config = config; world = world_after config w (map event_of events) })

-- the value is a script without a fault, and this is its text
abbrev pub IsTextOf : Data → TurnsText → Type 0
IsTextOf d made = (script : TurnsScript) × (checked_raw checked_script (script_shape d) ≡ Ok script)
    × (string_bytes made.text ≡ printed_text script)
