-- The fields of a turns script, as they come.
use Rattle.std.proofs.Common.{◌≡◌, ℕ, List, refl, codes, arith}
use Rattle.std.specs.Prelude.{Option, Some, None, IfSome}
use Rattle.json.specs.Token.{Token}
use Rattle.model.specs.Configs.{Config, IsConfig}
use Rattle.serde_json.specs.Data.{Data, Members, object, put}
use Rattle.serde_json.specs.Find.{get_member}
use Rattle.scripts.specs.Shapes.{bytes_shape, count_members, list_shape, number_shape}
use Rattle.scripts.specs.Streams.{Fills, Takes, TakesData}
use Rattle.scripts.proofs.StreamLemmas.{taken_data}
use Rattle.scripts.proofs.StreamObjectLemmas.{slot_put, slot_other, slot_value, count_new, if_some_weaker}
use Rattle.cluster_scripts.proofs.ConfigLemmas.{within_limits}
use Rattle.turns_run.specs.Shapes.{event_shape, script_shape}
use Rattle.turns_run.specs.Streams.{HoldsFields}
use Rattle.turns_run.specs.declared.script.RawEvent.{RawEvent}
use Rattle.turns_run.specs.declared.turns_fields.TurnsFields.{TurnsFields}

-- the events are taken into an empty place
pub events_put : {E : Type 0} (is_from : E → List RawEvent → Type 0) (depth : ℕ) (old rest : List Token) (f new : TurnsFields E) (result : Option Unit)
    → IfSome result (λ _. (raws : List RawEvent) × (made : E) × Takes (list_shape event_shape) depth old raws rest × is_from made raws × (f.events ≡ None) × (new ≡ record f { events = Some made }))
    → IfSome result (λ _. (d : Data) × TakesData depth old d rest × ((ms : Members) → HoldsFields is_from f ms → HoldsFields is_from new (put (codes "events") d ms)))
events_put is_from depth old rest f new result taken = if_some_weaker result (λ _ found.
    let raws = found.0 in
    let read = taken_data (list_shape event_shape) depth old rest raws found.2 in
    let d = read.0 in
    let k = codes "events" in (
      d,
      read.1,
      λ ms held.
          let empty : held.0 ≡ None = rw found.4 at held.1 in
          let fills : Fills (list_shape event_shape) d held.0 (Some raws) = record { empty = empty; filled = refl; value = read.2 } in
          let more = count_new (list_shape event_shape) k d held.0 (Some raws) ms fills held.6 in
          rw found.5 (
            Some raws,
            (raws, refl, found.3),
            slot_other number_shape (codes "proxies") k f.proxies d ms refl held.2,
            slot_other number_shape (codes "resolvers") k f.resolvers d ms refl held.3,
            slot_other number_shape (codes "window") k f.window d ms refl held.4,
            slot_other number_shape (codes "step") k f.step d ms refl held.5,
            slot_put (list_shape event_shape) k d held.0 (Some raws) ms fills,
            slot_other (list_shape bytes_shape) (codes "ask") k f.ask d ms refl held.7,
            omega (arith, more.0, more.1, more.2, held.8),
          ),
    )) taken

-- ---- a whole script

-- the fields are those of a script
pub script_of_fields : {E : Type 0} (is_from : E → List RawEvent → Type 0) (f : TurnsFields E) (ms : Members) (config : Config) (made : E) (ask : List (List ℕ))
    → HoldsFields is_from f ms → (f.proxies ≡ Some config.proxies) → (f.resolvers ≡ Some config.resolvers) → (f.window ≡ Some config.window) → (f.step ≡ Some config.step) → IsConfig config
    → f.events ≡ Some made → f.ask ≡ Some ask
    → (raws : List RawEvent) × is_from made raws × (script_shape (object ms) ≡ Some (record { config = config; events = raws; ask = ask }))
script_of_fields is_from f ms config made ask held proxies resolvers window step is events asked =
    let from = rw events at held.1 in
    let raws = from.0 in
    let a = slot_value number_shape (get_member (codes "proxies") ms) config.proxies (rw proxies at held.2) in
    let b = slot_value number_shape (get_member (codes "resolvers") ms) config.resolvers (rw resolvers at held.3) in
    let c = slot_value number_shape (get_member (codes "window") ms) config.window (rw window at held.4) in
    let d = slot_value number_shape (get_member (codes "step") ms) config.step (rw step at held.5) in
    let e = slot_value (list_shape event_shape) (get_member (codes "events") ms) raws (rw from.1 at held.6) in
    let g = slot_value (list_shape bytes_shape) (get_member (codes "ask") ms) ask (rw asked at held.7) in
    let count : count_members ms ≡ 6 = rw (proxies, resolvers, window, step, from.1, asked) at held.8 in
    let within = within_limits config is in
    (raws, from.2, rw (count, a.1, a.2, b.1, b.2, c.1, c.2, d.1, d.2, within, e.1, e.2, g.1, g.2) refl)
