-- Lines, as their tokens come.
use Rattle.std.proofs.Common.{ℕ, List, refl}
use Rattle.json.specs.Token.{Token}
use Rattle.scripts.specs.Streams.{Takes}
use Rattle.scripts.proofs.StreamLemmas.{taken_data, takes_data}
use Rattle.turns_run.specs.Shapes.{event_shape}
use Rattle.turns_run.specs.declared.script.RawEvent.{RawEvent}
use Rattle.session_run.specs.Shapes.{line_shape}
use Rattle.session_run.specs.declared.line.RawLine.TheVariants as raw

-- an event is a line
pub takes_event : (depth : ℕ) (old new : List Token) (event : RawEvent) → Takes event_shape depth old event new → Takes line_shape depth old (raw.Event event) new
takes_event depth old new event taken =
    let found = taken_data event_shape depth old new event taken in
    takes_data line_shape depth found.0 old new (raw.Event event) found.1 (rw found.2 refl)
