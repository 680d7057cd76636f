use Rattle.std.proofs.Common.{codes, refl, arith}
use Rattle.scripts.specs.BatchShapes.{batch_shape}
use Rattle.scripts.specs.Shapes.{number_shape}
use Rattle.scripts.proofs.StreamObjectLemmas.{slot_put, slot_other, count_new, if_some_weaker}
use Rattle.turns_run.proofs.event_streams.SequenceFieldsFields.take_field.Goals as goal

pub returns-in-proxy : goal.returns-in-proxy
returns-in-proxy c =
    let f = c.args.self.now in
    let new = c.take_into_slot.new.slot in
    let k = codes "proxy" in
    rw c.in-proxy.is (if_some_weaker c.take_into_slot.result (λ _ read. (
      read.0,
      read.1,
      λ ms held.
          let more = count_new number_shape k read.0 f.proxy new ms read.2 held.0 in (
            slot_put number_shape k read.0 f.proxy new ms read.2,
            slot_other batch_shape (codes "batch") k f.batch read.0 ms refl held.1,
            omega (arith, more.0, more.1, more.2, held.2),
          ),
    )) c.take_into_slot.ensures)

pub returns-in-batch : goal.returns-in-batch
returns-in-batch c =
    let f = c.args.self.now in
    let new = c.take_into_slot-in-batch.new.slot in
    let k = codes "batch" in
    rw c.in-batch.is (if_some_weaker c.take_into_slot-in-batch.result (λ _ read. (
      read.0,
      read.1,
      λ ms held.
          let more = count_new batch_shape k read.0 f.batch new ms read.2 held.1 in (
            slot_other number_shape (codes "proxy") k f.proxy read.0 ms refl held.0,
            slot_put batch_shape k read.0 f.batch new ms read.2,
            omega (arith, more.0, more.1, more.2, held.2),
          ),
    )) c.take_into_slot-in-batch.ensures)
