-- The form of a line: an object has all its fields and no other, in any order, and the numbers of a
-- cluster are within their limits (this project's profile).
use Rattle.std.specs.Prelude.{◌≡◌, ℕ, List, codes, if◌then◌else◌, Option, Some, None, option_map}
use Rattle.std.specs.Prelude.{Result, Err, Bool, true, false}
use Rattle.serde_json.specs.Data.{Data, member, no_members, object}
use Rattle.serde_json.specs.Find.{get}
use Rattle.model.specs.Configs.{Config}
use Rattle.cluster_scripts.specs.Shapes.{config_shape}
use Rattle.scripts.specs.Shapes.{◌>>=◌, number_shape, bytes_shape, list_shape}
use Rattle.scripts.specs.Shapes.{has_fields, field_shape}
use Rattle.scripts.specs.declared.script_fault.ScriptFault.{ScriptFault}
use Rattle.scripts.specs.declared.script_fault.ScriptFault.TheVariants as faults
use Rattle.turns_run.specs.Shapes.{event_shape}
use Rattle.turns_run.specs.declared.script.RawEvent.{RawEvent}
use Rattle.session_run.specs.declared.line.RawLine.{RawLine}
use Rattle.session_run.specs.declared.line.RawLine.TheVariants.{Cluster, Event, Show}
use Rattle.session_run.specs.declared.line.Show.{Show as Shown}

-- `{"proxies":N,"resolvers":N,"window":N,"step":N}`
abbrev pub cluster_shape : Data → Option Config
cluster_shape d = if has_fields 4 d then config_shape d else None

-- `{"proxy":N,"ask":[..]}`
abbrev pub show_fields : Data → Option Shown
show_fields d = do
  proxy ← field_shape number_shape (codes "proxy") d
  ask ← field_shape (list_shape bytes_shape) (codes "ask") d
  Some (record { proxy = proxy; ask = ask })

abbrev pub show_shape : Data → Option Shown
show_shape d = if has_fields 2 d then show_fields d else None

-- an event of a turns script
abbrev pub event_line : Data → Option RawLine
event_line d = do
  event ← event_shape d
  Some (Event event)

-- `{"show":..}`
abbrev pub show_line : Data → Option RawLine
show_line d = do
  show ← field_shape show_shape (codes "show") d
  Some (Show show)

abbrev pub cluster_line : Data → Option RawLine
cluster_line numbers = do
  config ← cluster_shape numbers
  Some (Cluster config)

-- what the field that is there stands for, and otherwise the other line
abbrev pub or_line : Option Data → (Data → Option RawLine) → Option RawLine → Option RawLine
or_line None shape other = other
or_line (Some value) shape other = shape value

-- an object of one field: `{"cluster":..}` or `{"show":..}`
abbrev pub other_line : Data → Option RawLine
other_line d =
    if has_fields 1 d then or_line (get (codes "cluster") d) cluster_line (show_line d) else None

-- the first of two lines that is there
abbrev pub first_line : Option RawLine → Option RawLine → Option RawLine
first_line None other = other
first_line (Some line) other = Some line

-- an event of a turns script, `{"cluster":..}` or `{"show":..}`
abbrev pub line_shape : Data → Option RawLine
line_shape d = first_line (event_line d) (other_line d)

-- a word of a private clause: what was read is that a value does not have the shape
abbrev pub is_bad_shape : Result RawLine ScriptFault → Bool
is_bad_shape (Err faults.BadShape) = true
is_bad_shape read = false

-- an event as it stands in the list of a turns script is that event as a line
abbrev pub EventsAreLines : Type 0
EventsAreLines =
    (d : Data) (event : RawEvent) → event_shape d ≡ Some event → line_shape d ≡ Some (Event event)

-- an object whose only field has this name
abbrev pub with_field : List ℕ → Data → Data
with_field name value = object (member name value no_members)

-- `{"cluster":..}` is a line exactly if the numbers are those of a cluster, and begins it
abbrev pub ClustersAreLines : Type 0
ClustersAreLines =
    (numbers : Data)
    → line_shape (with_field (codes "cluster") numbers) ≡ option_map Cluster (cluster_shape numbers)

-- `{"show":..}` is a line exactly if the value is a show, and asks for it
abbrev pub ShowsAreLines : Type 0
ShowsAreLines =
    (shown : Data)
    → line_shape (with_field (codes "show") shown) ≡ option_map Show (show_shape shown)
