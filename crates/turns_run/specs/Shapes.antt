-- The form of a turns script: an object has all its fields and no other, in any order, and the
-- numbers of the cluster are within their limits (this project's profile).
use Rattle.std.specs.Prelude.{codes, if◌then◌else◌, Option, Some, None}
use Rattle.serde_json.specs.Data.{Data}
use Rattle.serde_json.specs.Find.{get}
use Rattle.scripts.specs.BatchShapes.{batch_shape}
use Rattle.scripts.specs.Shapes.{◌>>=◌, number_shape, bytes_shape, list_shape}
use Rattle.scripts.specs.Shapes.{has_fields, field_shape}
use Rattle.cluster_scripts.specs.Shapes.{config_shape, move_shape}
use Rattle.turns_run.specs.declared.script.RawTurns.{RawTurns}
use Rattle.turns_run.specs.declared.script.RawEvent.{RawEvent}
use Rattle.turns_run.specs.declared.script.RawEvent.TheVariants.{Sequence, Move, Offer, Finish}

-- ---- events

-- `{"proxy":N,"batch":[..]}`
abbrev pub sequence_fields : Data → Option RawEvent
sequence_fields d = do
  proxy ← field_shape number_shape (codes "proxy") d
  batch ← field_shape batch_shape (codes "batch") d
  Some (Sequence proxy batch)

abbrev pub sequence_shape : Data → Option RawEvent
sequence_shape d = if has_fields 2 d then sequence_fields d else None

-- `{"range":[begin,end],"resolver":N}`
abbrev pub move_event_shape : Data → Option RawEvent
move_event_shape d = do
  moved ← move_shape d
  Some (Move moved)

-- `{"row":N,"resolver":N}`
abbrev pub offer_fields : Data → Option RawEvent
offer_fields d = do
  row ← field_shape number_shape (codes "row") d
  resolver ← field_shape number_shape (codes "resolver") d
  Some (Offer row resolver)

abbrev pub offer_shape : Data → Option RawEvent
offer_shape d = if has_fields 2 d then offer_fields d else None

-- `{"proxy":N}`
abbrev pub finish_fields : Data → Option RawEvent
finish_fields d = do
  proxy ← field_shape number_shape (codes "proxy") d
  Some (Finish proxy)

abbrev pub finish_shape : Data → Option RawEvent
finish_shape d = if has_fields 1 d then finish_fields d else None

-- what the field that is there stands for, and otherwise the next form
abbrev pub or_form : Option Data → (Data → Option RawEvent) → Option RawEvent → Option RawEvent
or_form None shape next = next
or_form (Some value) shape next = shape value

-- the name of the field says which event it is
abbrev pub event_of_name : Data → Option RawEvent
event_of_name d =
    or_form (get (codes "sequence") d) sequence_shape
    (or_form (get (codes "move") d) move_event_shape
    (or_form (get (codes "offer") d) offer_shape
    (or_form (get (codes "finish") d) finish_shape None)))

-- an object of one field: `{"sequence":..}`, `{"move":..}`, `{"offer":..}` or `{"finish":..}`
abbrev pub event_shape : Data → Option RawEvent
event_shape d = if has_fields 1 d then event_of_name d else None

-- ---- the script

-- `{"proxies":N,"resolvers":N,"window":N,"step":N,"events":[..],"ask":[..]}`
abbrev pub script_fields : Data → Option RawTurns
script_fields d = do
  config ← config_shape d
  events ← field_shape (list_shape event_shape) (codes "events") d
  ask ← field_shape (list_shape bytes_shape) (codes "ask") d
  Some (record { config = config; events = events; ask = ask })

abbrev pub script_shape : Data → Option RawTurns
script_shape d = if has_fields 6 d then script_fields d else None
