use Rattle.std.proofs.Common.{codes, refl, arith}
use Rattle.scripts.specs.Shapes.{bytes_shape, list_shape, number_shape}
use Rattle.turns_run.specs.Shapes.{event_shape}
use Rattle.scripts.proofs.StreamObjectLemmas.{slot_put, slot_other, count_new, if_some_weaker}
use Rattle.turns_run.proofs.StreamLemmas.{events_put}
use Rattle.turns_run.proofs.turns_fields.TurnsFieldsFields.take_field.Goals as goal

pub returns-in-proxies : goal.returns-in-proxies
returns-in-proxies g c =
    let f = c.args.self.now in
    let new = c.take_into_slot.new.slot in
    let k = codes "proxies" in
    rw c.in-proxies.is (if_some_weaker c.take_into_slot.result (λ _ read. (
      read.0,
      read.1,
      λ ms held.
          let more = count_new number_shape k read.0 f.proxies new ms read.2 held.2 in (
            held.0,
            held.1,
            slot_put number_shape k read.0 f.proxies new ms read.2,
            slot_other number_shape (codes "resolvers") k f.resolvers read.0 ms refl held.3,
            slot_other number_shape (codes "window") k f.window read.0 ms refl held.4,
            slot_other number_shape (codes "step") k f.step read.0 ms refl held.5,
            slot_other (list_shape event_shape) (codes "events") k held.0 read.0 ms refl held.6,
            slot_other (list_shape bytes_shape) (codes "ask") k f.ask read.0 ms refl held.7,
            omega (arith, more.0, more.1, more.2, held.8),
          ),
    )) c.take_into_slot.ensures)

pub returns-in-resolvers : goal.returns-in-resolvers
returns-in-resolvers g c =
    let f = c.args.self.now in
    let new = c.take_into_slot-in-resolvers.new.slot in
    let k = codes "resolvers" in
    rw c.in-resolvers.is (if_some_weaker c.take_into_slot-in-resolvers.result (λ _ read. (
      read.0,
      read.1,
      λ ms held.
          let more = count_new number_shape k read.0 f.resolvers new ms read.2 held.3 in (
            held.0,
            held.1,
            slot_other number_shape (codes "proxies") k f.proxies read.0 ms refl held.2,
            slot_put number_shape k read.0 f.resolvers new ms read.2,
            slot_other number_shape (codes "window") k f.window read.0 ms refl held.4,
            slot_other number_shape (codes "step") k f.step read.0 ms refl held.5,
            slot_other (list_shape event_shape) (codes "events") k held.0 read.0 ms refl held.6,
            slot_other (list_shape bytes_shape) (codes "ask") k f.ask read.0 ms refl held.7,
            omega (arith, more.0, more.1, more.2, held.8),
          ),
    )) c.take_into_slot-in-resolvers.ensures)

pub returns-in-window : goal.returns-in-window
returns-in-window g c =
    let f = c.args.self.now in
    let new = c.take_into_slot-in-window.new.slot in
    let k = codes "window" in
    rw c.in-window.is (if_some_weaker c.take_into_slot-in-window.result (λ _ read. (
      read.0,
      read.1,
      λ ms held.
          let more = count_new number_shape k read.0 f.window new ms read.2 held.4 in (
            held.0,
            held.1,
            slot_other number_shape (codes "proxies") k f.proxies read.0 ms refl held.2,
            slot_other number_shape (codes "resolvers") k f.resolvers read.0 ms refl held.3,
            slot_put number_shape k read.0 f.window new ms read.2,
            slot_other number_shape (codes "step") k f.step read.0 ms refl held.5,
            slot_other (list_shape event_shape) (codes "events") k held.0 read.0 ms refl held.6,
            slot_other (list_shape bytes_shape) (codes "ask") k f.ask read.0 ms refl held.7,
            omega (arith, more.0, more.1, more.2, held.8),
          ),
    )) c.take_into_slot-in-window.ensures)

pub returns-in-step : goal.returns-in-step
returns-in-step g c =
    let f = c.args.self.now in
    let new = c.take_into_slot-in-step.new.slot in
    let k = codes "step" in
    rw c.in-step.is (if_some_weaker c.take_into_slot-in-step.result (λ _ read. (
      read.0,
      read.1,
      λ ms held.
          let more = count_new number_shape k read.0 f.step new ms read.2 held.5 in (
            held.0,
            held.1,
            slot_other number_shape (codes "proxies") k f.proxies read.0 ms refl held.2,
            slot_other number_shape (codes "resolvers") k f.resolvers read.0 ms refl held.3,
            slot_other number_shape (codes "window") k f.window read.0 ms refl held.4,
            slot_put number_shape k read.0 f.step new ms read.2,
            slot_other (list_shape event_shape) (codes "events") k held.0 read.0 ms refl held.6,
            slot_other (list_shape bytes_shape) (codes "ask") k f.ask read.0 ms refl held.7,
            omega (arith, more.0, more.1, more.2, held.8),
          ),
    )) c.take_into_slot-in-step.ensures)

pub returns-in-ask : goal.returns-in-ask
returns-in-ask g c =
    let f = c.args.self.now in
    let new = c.take_into_slot-in-ask.new.slot in
    let k = codes "ask" in
    rw c.in-ask.is (if_some_weaker c.take_into_slot-in-ask.result (λ _ read. (
      read.0,
      read.1,
      λ ms held.
          let more = count_new (list_shape bytes_shape) k read.0 f.ask new ms read.2 held.7 in (
            held.0,
            held.1,
            slot_other number_shape (codes "proxies") k f.proxies read.0 ms refl held.2,
            slot_other number_shape (codes "resolvers") k f.resolvers read.0 ms refl held.3,
            slot_other number_shape (codes "window") k f.window read.0 ms refl held.4,
            slot_other number_shape (codes "step") k f.step read.0 ms refl held.5,
            slot_other (list_shape event_shape) (codes "events") k held.0 read.0 ms refl held.6,
            slot_put (list_shape bytes_shape) k read.0 f.ask new ms read.2,
            omega (arith, more.0, more.1, more.2, held.8),
          ),
    )) c.take_into_slot-in-ask.ensures)

pub returns-in-events : goal.returns-in-events
returns-in-events g c =
    rw c.in-events.is (events_put g.E.FromEvents.is_from c.args.depth c.args.reader.now c.take_events.new.reader c.args.self.now c.take_events.new.self c.take_events.result c.take_events.ensures)
