use Rattle.std.proofs.Common.{codes, refl, arith}
use Rattle.scripts.specs.Shapes.{bytes_shape, list_shape, number_shape}
use Rattle.scripts.proofs.StreamObjectLemmas.{slot_put, slot_other, count_new, if_some_weaker}
use Rattle.cluster_scripts.specs.Shapes.{move_shape}
use Rattle.threads_scripts.specs.Shapes.{work_shape}
use Rattle.threads_scripts.proofs.threads_fields.ThreadsFieldsFields.take_field.Goals as goal

pub returns-in-proxies : goal.returns-in-proxies
returns-in-proxies c =
    let f = c.args.self.now in
    let new = c.take_into_slot.new.slot in
    let k = codes "proxies" in
    rw c.in-proxies.is (if_some_weaker c.take_into_slot.result (λ _ read. (
      read.0,
      read.1,
      λ ms held.
          let more = count_new number_shape k read.0 f.proxies new ms read.2 held.0 in (
            slot_put number_shape k read.0 f.proxies new ms read.2,
            slot_other number_shape (codes "resolvers") k f.resolvers read.0 ms refl held.1,
            slot_other number_shape (codes "window") k f.window read.0 ms refl held.2,
            slot_other number_shape (codes "step") k f.step read.0 ms refl held.3,
            slot_other number_shape (codes "rows") k f.rows read.0 ms refl held.4,
            slot_other (list_shape move_shape) (codes "moves") k f.moves read.0 ms refl held.5,
            slot_other work_shape (codes "work") k f.work read.0 ms refl held.6,
            slot_other (list_shape bytes_shape) (codes "ask") k f.ask read.0 ms refl held.7,
            omega (arith, more.0, more.1, more.2, held.8),
          ),
    )) c.take_into_slot.ensures)

pub returns-in-resolvers : goal.returns-in-resolvers
returns-in-resolvers c =
    let f = c.args.self.now in
    let new = c.take_into_slot-in-resolvers.new.slot in
    let k = codes "resolvers" in
    rw c.in-resolvers.is (if_some_weaker c.take_into_slot-in-resolvers.result (λ _ read. (
      read.0,
      read.1,
      λ ms held.
          let more = count_new number_shape k read.0 f.resolvers new ms read.2 held.1 in (
            slot_other number_shape (codes "proxies") k f.proxies read.0 ms refl held.0,
            slot_put number_shape k read.0 f.resolvers new ms read.2,
            slot_other number_shape (codes "window") k f.window read.0 ms refl held.2,
            slot_other number_shape (codes "step") k f.step read.0 ms refl held.3,
            slot_other number_shape (codes "rows") k f.rows read.0 ms refl held.4,
            slot_other (list_shape move_shape) (codes "moves") k f.moves read.0 ms refl held.5,
            slot_other work_shape (codes "work") k f.work read.0 ms refl held.6,
            slot_other (list_shape bytes_shape) (codes "ask") k f.ask read.0 ms refl held.7,
            omega (arith, more.0, more.1, more.2, held.8),
          ),
    )) c.take_into_slot-in-resolvers.ensures)

pub returns-in-window : goal.returns-in-window
returns-in-window c =
    let f = c.args.self.now in
    let new = c.take_into_slot-in-window.new.slot in
    let k = codes "window" in
    rw c.in-window.is (if_some_weaker c.take_into_slot-in-window.result (λ _ read. (
      read.0,
      read.1,
      λ ms held.
          let more = count_new number_shape k read.0 f.window new ms read.2 held.2 in (
            slot_other number_shape (codes "proxies") k f.proxies read.0 ms refl held.0,
            slot_other number_shape (codes "resolvers") k f.resolvers read.0 ms refl held.1,
            slot_put number_shape k read.0 f.window new ms read.2,
            slot_other number_shape (codes "step") k f.step read.0 ms refl held.3,
            slot_other number_shape (codes "rows") k f.rows read.0 ms refl held.4,
            slot_other (list_shape move_shape) (codes "moves") k f.moves read.0 ms refl held.5,
            slot_other work_shape (codes "work") k f.work read.0 ms refl held.6,
            slot_other (list_shape bytes_shape) (codes "ask") k f.ask read.0 ms refl held.7,
            omega (arith, more.0, more.1, more.2, held.8),
          ),
    )) c.take_into_slot-in-window.ensures)

pub returns-in-step : goal.returns-in-step
returns-in-step c =
    let f = c.args.self.now in
    let new = c.take_into_slot-in-step.new.slot in
    let k = codes "step" in
    rw c.in-step.is (if_some_weaker c.take_into_slot-in-step.result (λ _ read. (
      read.0,
      read.1,
      λ ms held.
          let more = count_new number_shape k read.0 f.step new ms read.2 held.3 in (
            slot_other number_shape (codes "proxies") k f.proxies read.0 ms refl held.0,
            slot_other number_shape (codes "resolvers") k f.resolvers read.0 ms refl held.1,
            slot_other number_shape (codes "window") k f.window read.0 ms refl held.2,
            slot_put number_shape k read.0 f.step new ms read.2,
            slot_other number_shape (codes "rows") k f.rows read.0 ms refl held.4,
            slot_other (list_shape move_shape) (codes "moves") k f.moves read.0 ms refl held.5,
            slot_other work_shape (codes "work") k f.work read.0 ms refl held.6,
            slot_other (list_shape bytes_shape) (codes "ask") k f.ask read.0 ms refl held.7,
            omega (arith, more.0, more.1, more.2, held.8),
          ),
    )) c.take_into_slot-in-step.ensures)

pub returns-in-rows : goal.returns-in-rows
returns-in-rows c =
    let f = c.args.self.now in
    let new = c.take_into_slot-in-rows.new.slot in
    let k = codes "rows" in
    rw c.in-rows.is (if_some_weaker c.take_into_slot-in-rows.result (λ _ read. (
      read.0,
      read.1,
      λ ms held.
          let more = count_new number_shape k read.0 f.rows new ms read.2 held.4 in (
            slot_other number_shape (codes "proxies") k f.proxies read.0 ms refl held.0,
            slot_other number_shape (codes "resolvers") k f.resolvers read.0 ms refl held.1,
            slot_other number_shape (codes "window") k f.window read.0 ms refl held.2,
            slot_other number_shape (codes "step") k f.step read.0 ms refl held.3,
            slot_put number_shape k read.0 f.rows new ms read.2,
            slot_other (list_shape move_shape) (codes "moves") k f.moves read.0 ms refl held.5,
            slot_other work_shape (codes "work") k f.work read.0 ms refl held.6,
            slot_other (list_shape bytes_shape) (codes "ask") k f.ask read.0 ms refl held.7,
            omega (arith, more.0, more.1, more.2, held.8),
          ),
    )) c.take_into_slot-in-rows.ensures)

pub returns-in-moves : goal.returns-in-moves
returns-in-moves c =
    let f = c.args.self.now in
    let new = c.take_into_slot-in-moves.new.slot in
    let k = codes "moves" in
    rw c.in-moves.is (if_some_weaker c.take_into_slot-in-moves.result (λ _ read. (
      read.0,
      read.1,
      λ ms held.
          let more = count_new (list_shape move_shape) k read.0 f.moves new ms read.2 held.5 in (
            slot_other number_shape (codes "proxies") k f.proxies read.0 ms refl held.0,
            slot_other number_shape (codes "resolvers") k f.resolvers read.0 ms refl held.1,
            slot_other number_shape (codes "window") k f.window read.0 ms refl held.2,
            slot_other number_shape (codes "step") k f.step read.0 ms refl held.3,
            slot_other number_shape (codes "rows") k f.rows read.0 ms refl held.4,
            slot_put (list_shape move_shape) k read.0 f.moves new ms read.2,
            slot_other work_shape (codes "work") k f.work read.0 ms refl held.6,
            slot_other (list_shape bytes_shape) (codes "ask") k f.ask read.0 ms refl held.7,
            omega (arith, more.0, more.1, more.2, held.8),
          ),
    )) c.take_into_slot-in-moves.ensures)

pub returns-in-work : goal.returns-in-work
returns-in-work c =
    let f = c.args.self.now in
    let new = c.take_into_slot-in-work.new.slot in
    let k = codes "work" in
    rw c.in-work.is (if_some_weaker c.take_into_slot-in-work.result (λ _ read. (
      read.0,
      read.1,
      λ ms held.
          let more = count_new work_shape k read.0 f.work new ms read.2 held.6 in (
            slot_other number_shape (codes "proxies") k f.proxies read.0 ms refl held.0,
            slot_other number_shape (codes "resolvers") k f.resolvers read.0 ms refl held.1,
            slot_other number_shape (codes "window") k f.window read.0 ms refl held.2,
            slot_other number_shape (codes "step") k f.step read.0 ms refl held.3,
            slot_other number_shape (codes "rows") k f.rows read.0 ms refl held.4,
            slot_other (list_shape move_shape) (codes "moves") k f.moves read.0 ms refl held.5,
            slot_put work_shape k read.0 f.work new ms read.2,
            slot_other (list_shape bytes_shape) (codes "ask") k f.ask read.0 ms refl held.7,
            omega (arith, more.0, more.1, more.2, held.8),
          ),
    )) c.take_into_slot-in-work.ensures)

pub returns-in-ask : goal.returns-in-ask
returns-in-ask c =
    let f = c.args.self.now in
    let new = c.take_into_slot-in-ask.new.slot in
    let k = codes "ask" in
    rw c.in-ask.is (if_some_weaker c.take_into_slot-in-ask.result (λ _ read. (
      read.0,
      read.1,
      λ ms held.
          let more = count_new (list_shape bytes_shape) k read.0 f.ask new ms read.2 held.7 in (
            slot_other number_shape (codes "proxies") k f.proxies read.0 ms refl held.0,
            slot_other number_shape (codes "resolvers") k f.resolvers read.0 ms refl held.1,
            slot_other number_shape (codes "window") k f.window read.0 ms refl held.2,
            slot_other number_shape (codes "step") k f.step read.0 ms refl held.3,
            slot_other number_shape (codes "rows") k f.rows read.0 ms refl held.4,
            slot_other (list_shape move_shape) (codes "moves") k f.moves read.0 ms refl held.5,
            slot_other work_shape (codes "work") k f.work read.0 ms refl held.6,
            slot_put (list_shape bytes_shape) k read.0 f.ask new ms read.2,
            omega (arith, more.0, more.1, more.2, held.8),
          ),
    )) c.take_into_slot-in-ask.ensures)
