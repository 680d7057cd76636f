use Rattle.std.proofs.Common.{codes, refl, arith}
use Rattle.scripts.specs.Shapes.{list_shape, number_shape}
use Rattle.fold_run.specs.Shapes.{state_shape}
use Rattle.scripts.proofs.StreamObjectLemmas.{slot_put, slot_other, count_new, if_some_weaker}
use Rattle.fold_run.proofs.row_streams.RowFieldsFields.take_field.Goals as goal

pub returns-in-version : goal.returns-in-version
returns-in-version c =
    let f = c.args.self.now in
    let new = c.take_into_slot.new.slot in
    let k = codes "version" in
    rw c.in-version.is (if_some_weaker c.take_into_slot.result (λ _ read. (
      read.0,
      read.1,
      λ ms held.
          let more = count_new number_shape k read.0 f.version new ms read.2 held.0 in (
            slot_put number_shape k read.0 f.version new ms read.2,
            slot_other (list_shape state_shape) (codes "states") k f.states read.0 ms refl held.1,
            omega (arith, more.0, more.1, more.2, held.2),
          ),
    )) c.take_into_slot.ensures)

pub returns-in-states : goal.returns-in-states
returns-in-states c =
    let f = c.args.self.now in
    let new = c.take_into_slot-in-states.new.slot in
    let k = codes "states" in
    rw c.in-states.is (if_some_weaker c.take_into_slot-in-states.result (λ _ read. (
      read.0,
      read.1,
      λ ms held.
          let more = count_new (list_shape state_shape) k read.0 f.states new ms read.2 held.1 in (
            slot_other number_shape (codes "version") k f.version read.0 ms refl held.0,
            slot_put (list_shape state_shape) k read.0 f.states new ms read.2,
            omega (arith, more.0, more.1, more.2, held.2),
          ),
    )) c.take_into_slot-in-states.ensures)
