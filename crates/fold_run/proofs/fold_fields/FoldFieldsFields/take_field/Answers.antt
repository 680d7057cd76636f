use Rattle.std.proofs.Common.{codes, refl, arith}
use Rattle.scripts.specs.Shapes.{bytes_shape, list_shape, number_shape}
use Rattle.fold_run.specs.Shapes.{row_shape}
use Rattle.scripts.proofs.StreamObjectLemmas.{slot_put, slot_other, count_new, if_some_weaker}
use Rattle.fold_run.proofs.StreamLemmas.{rows_put}
use Rattle.fold_run.proofs.fold_fields.FoldFieldsFields.take_field.Goals as goal

pub returns-in-resolvers : goal.returns-in-resolvers
returns-in-resolvers g c =
    let f = c.args.self.now in
    let new = c.take_into_slot.new.slot in
    let k = codes "resolvers" in
    rw c.in-resolvers.is (if_some_weaker c.take_into_slot.result (λ _ read. (
      read.0,
      read.1,
      λ ms held.
          let more = count_new number_shape k read.0 f.resolvers new ms read.2 held.2 in (
            held.0,
            held.1,
            slot_put number_shape k read.0 f.resolvers new ms read.2,
            slot_other (list_shape row_shape) (codes "rows") k held.0 read.0 ms refl held.3,
            slot_other (list_shape bytes_shape) (codes "ask") k f.ask read.0 ms refl held.4,
            omega (arith, more.0, more.1, more.2, held.5),
          ),
    )) c.take_into_slot.ensures)

pub returns-in-ask : goal.returns-in-ask
returns-in-ask g c =
    let f = c.args.self.now in
    let new = c.take_into_slot-in-ask.new.slot in
    let k = codes "ask" in
    rw c.in-ask.is (if_some_weaker c.take_into_slot-in-ask.result (λ _ read. (
      read.0,
      read.1,
      λ ms held.
          let more = count_new (list_shape bytes_shape) k read.0 f.ask new ms read.2 held.4 in (
            held.0,
            held.1,
            slot_other number_shape (codes "resolvers") k f.resolvers read.0 ms refl held.2,
            slot_other (list_shape row_shape) (codes "rows") k held.0 read.0 ms refl held.3,
            slot_put (list_shape bytes_shape) k read.0 f.ask new ms read.2,
            omega (arith, more.0, more.1, more.2, held.5),
          ),
    )) c.take_into_slot-in-ask.ensures)

pub returns-in-rows : goal.returns-in-rows
returns-in-rows g c =
    rw c.in-rows.is (rows_put g.R.FromFoldRows.is_from c.args.depth c.args.reader.now c.take_rows.new.reader c.args.self.now c.take_rows.new.self c.take_rows.result c.take_rows.ensures)
