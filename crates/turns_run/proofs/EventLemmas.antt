-- Events, as their tokens come.
use Rattle.std.proofs.Common.{◌≡◌, ◌∙◌, ℕ, List}
use Rattle.std.specs.Prelude.{Option, Some, None}
use Rattle.json.specs.Token.{Token}
use Rattle.serde_json.specs.Data.{Data, object, Members, no_members, member, put}
use Rattle.scripts.specs.Streams.{Takes, TakesData}
use Rattle.scripts.proofs.StreamLemmas.{taken_data}
use Rattle.turns_run.specs.Shapes.{event_shape}
use Rattle.turns_run.specs.Streams.{Holds}
use Rattle.turns_run.specs.declared.script.RawEvent.{RawEvent}

-- the field of this name, as an event
pub named_field : (shape : Data → Option RawEvent) (k : List ℕ) (depth : ℕ) (old new : List Token) (event : RawEvent) → ((d : Data) → event_shape (object (member k d no_members)) ≡ shape d) → Takes shape depth old event new
    → (d : Data) × TakesData depth old d new × (event_shape (object (member k d no_members)) ≡ Some event)
named_field shape k depth old new event same taken =
    let found = taken_data shape depth old new event taken in
    (found.0, found.1, same found.0 ∙ found.2)

-- the first field is the only one
pub only_field : (held : Option RawEvent) (k : List ℕ) (d : Data) (event : RawEvent) → held ≡ None → event_shape (object (member k d no_members)) ≡ Some event
    → (ms : Members) → Holds held ms → Holds (Some event) (put k d ms)
only_field held k d event none is ms holds =
    let empty : ms ≡ no_members = rw none at holds in
    rw empty is
