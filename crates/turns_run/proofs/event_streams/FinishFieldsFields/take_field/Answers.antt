use Rattle.std.proofs.Common.{codes, arith}
use Rattle.scripts.specs.Shapes.{number_shape}
use Rattle.scripts.proofs.StreamObjectLemmas.{slot_put, count_new, if_some_weaker}
use Rattle.turns_run.proofs.event_streams.FinishFieldsFields.take_field.Goals as goal

pub returns-in-proxy : goal.returns-in-proxy
returns-in-proxy c =
    let f = c.args.self.now in
    let new = c.take_into_slot.new.slot in
    let k = codes "proxy" in
    rw c.in-proxy.is (if_some_weaker c.take_into_slot.result (λ _ read. (
      read.0,
      read.1,
      λ ms held.
          let more = count_new number_shape k read.0 f.proxy new ms read.2 held.0 in (
            slot_put number_shape k read.0 f.proxy new ms read.2,
            omega (arith, more.0, more.1, more.2, held.1),
          ),
    )) c.take_into_slot.ensures)
