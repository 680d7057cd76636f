-- What is held of an event while its only field comes, and of the fields of a script (this project's
-- profile).
use Rattle.std.specs.Prelude.{◌≡◌, ◌+◌, List, codes, Option, Some, None}
use Rattle.serde_json.specs.Data.{Members, no_members, object}
use Rattle.scripts.specs.Shapes.{bytes_shape, count_members, list_shape, number_shape}
use Rattle.scripts.specs.Streams.{IsFrom, Slot, one}
use Rattle.turns_run.specs.Shapes.{event_shape}
use Rattle.turns_run.specs.declared.script.RawEvent.{RawEvent}
use Rattle.turns_run.specs.declared.turns_fields.TurnsFields.{TurnsFields}

-- no field yet, or the event that the fields stand for
abbrev pub Holds : Option RawEvent → Members → Type 0
Holds None ms = ms ≡ no_members
Holds (Some event) ms = event_shape (object ms) ≡ Some event

-- what the fields of a script hold while they come; of the events, what `is_from` says of them
abbrev pub HoldsFields : {E : Type 0} → (E → List RawEvent → Type 0) → TurnsFields E → Members
    → Type 0
HoldsFields is_from f ms = (raws : Option (List RawEvent)) × IsFrom is_from f.events raws
    × Slot number_shape (codes "proxies") f.proxies ms
    × Slot number_shape (codes "resolvers") f.resolvers ms
    × Slot number_shape (codes "window") f.window ms
    × Slot number_shape (codes "step") f.step ms
    × Slot (list_shape event_shape) (codes "events") raws ms
    × Slot (list_shape bytes_shape) (codes "ask") f.ask ms
    × (count_members ms
    ≡ one f.proxies + one f.resolvers + one f.window + one f.step + one raws + one f.ask)
