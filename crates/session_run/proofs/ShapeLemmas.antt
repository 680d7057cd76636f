-- What is read of the value of a line.
use Rattle.serde_json.specs.Data.{Data}
use Rattle.model.specs.Configs.{Config}
use Rattle.std.proofs.Common.{◌≡◌, codes, option_map, refl, Result, Ok, Err, Option, Some, None, true, false}
use Rattle.scripts.specs.ScriptFaults.{IsReadAs}
use Rattle.scripts.specs.Shapes.{◌>>=◌, or_bad_shape}
use Rattle.scripts.specs.declared.script_fault.ScriptFault.{ScriptFault}
use Rattle.scripts.specs.declared.script_fault.ScriptFault.TheVariants as faults
use Rattle.session_run.specs.Shapes.{cluster_shape, first_line, is_bad_shape, line_shape, show_shape, with_field}
use Rattle.session_run.specs.declared.line.Show.{Show as Shown}
use Rattle.turns_run.specs.Shapes.{event_shape}
use Rattle.turns_run.specs.declared.script.RawEvent.{RawEvent}
use Rattle.session_run.specs.declared.line.RawLine.TheVariants as raw
use Rattle.session_run.specs.declared.line.RawLine.{RawLine}

-- it is an event, or memory is out
pub reads_event : (read : Result RawLine ScriptFault) (event other : Option RawLine) → IsReadAs (λ found. found) read (or_bad_shape event) → is_bad_shape read ≡ false
    → IsReadAs (λ found. found) read (or_bad_shape (first_line event other))
reads_event (Ok line) None other is differs = cc
reads_event (Ok line) (Some found) other is differs = is
reads_event (Err faults.NotJson) None other is differs = cc
reads_event (Err faults.NotJson) (Some found) other is differs = cc
reads_event (Err faults.BadShape) event other is differs = cc
reads_event (Err (faults.Refused refusal)) None other is differs = cc
reads_event (Err (faults.Refused refusal)) (Some found) other is differs = cc
reads_event (Err faults.NoSuchResolver) None other is differs = cc
reads_event (Err faults.NoSuchResolver) (Some found) other is differs = cc
reads_event (Err faults.OutOfMemory) event other is differs = tt

-- it is no event
pub reads_other : (read : Result RawLine ScriptFault) (event other : Option RawLine) (result : Result RawLine ScriptFault) → IsReadAs (λ found. found) read (or_bad_shape event) → is_bad_shape read ≡ true
    → IsReadAs (λ found. found) result (or_bad_shape other) → IsReadAs (λ found. found) result (or_bad_shape (first_line event other))
reads_other (Err faults.BadShape) None other result is same fine = fine
reads_other (Err faults.BadShape) (Some found) other result is same fine = absurd (let none : ⊥ = cc in none)
reads_other (Ok line) event other result is same fine = absurd (let none : ⊥ = cc in none)
reads_other (Err faults.NotJson) event other result is same fine = absurd (let none : ⊥ = cc in none)
reads_other (Err (faults.Refused refusal)) event other result is same fine = absurd (let none : ⊥ = cc in none)
reads_other (Err faults.NoSuchResolver) event other result is same fine = absurd (let none : ⊥ = cc in none)
reads_other (Err faults.OutOfMemory) event other result is same fine = absurd (let none : ⊥ = cc in none)

-- an event of a script as a line
pub event_is_line : (d : Data) (event : RawEvent) → event_shape d ≡ Some event → line_shape d ≡ Some (raw.Event event)
event_is_line d event is = rw is refl

-- ---- lines that are no events

cluster_read : (config : Option Config) → first_line None (config >>= (λ (c : Config). Some (raw.Cluster c))) ≡ option_map raw.Cluster config
cluster_read None = refl
cluster_read (Some config) = refl

pub cluster_is_line : (numbers : Data) → line_shape (with_field (codes "cluster") numbers) ≡ option_map raw.Cluster (cluster_shape numbers)
cluster_is_line numbers = cluster_read (cluster_shape numbers)

show_read : (shown : Option Shown) → first_line None (shown >>= (λ (s : Shown). Some (raw.Show s))) ≡ option_map raw.Show shown
show_read None = refl
show_read (Some shown) = refl

pub show_is_line : (shown : Data) → line_shape (with_field (codes "show") shown) ≡ option_map raw.Show (show_shape shown)
show_is_line shown = show_read (show_shape shown)
