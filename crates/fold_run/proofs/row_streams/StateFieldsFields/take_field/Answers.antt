use Rattle.std.proofs.Common.{codes, refl, arith}
use Rattle.serde_json.specs.Find.{as_bool}
use Rattle.scripts.specs.ChangeShapes.{change_shape}
use Rattle.scripts.specs.Shapes.{list_shape, verdict_shape}
use Rattle.scripts.proofs.StreamObjectLemmas.{slot_put, slot_other, count_new, if_some_weaker}
use Rattle.fold_run.proofs.row_streams.StateFieldsFields.take_field.Goals as goal

pub returns-in-mutations : goal.returns-in-mutations
returns-in-mutations c =
    let f = c.args.self.now in
    let new = c.take_into_slot.new.slot in
    let k = codes "mutations" in
    rw c.in-mutations.is (if_some_weaker c.take_into_slot.result (λ _ read. (
      read.0,
      read.1,
      λ ms held.
          let more = count_new (list_shape change_shape) k read.0 f.mutations new ms read.2 held.0 in (
            slot_put (list_shape change_shape) k read.0 f.mutations new ms read.2,
            slot_other as_bool (codes "lock_aware") k f.lock_aware read.0 ms refl held.1,
            slot_other (list_shape verdict_shape) (codes "verdicts") k f.verdicts read.0 ms refl held.2,
            omega (arith, more.0, more.1, more.2, held.3),
          ),
    )) c.take_into_slot.ensures)

pub returns-in-lock_aware : goal.returns-in-lock_aware
returns-in-lock_aware c =
    let f = c.args.self.now in
    let new = c.take_into_slot-in-lock_aware.new.slot in
    let k = codes "lock_aware" in
    rw c.in-lock_aware.is (if_some_weaker c.take_into_slot-in-lock_aware.result (λ _ read. (
      read.0,
      read.1,
      λ ms held.
          let more = count_new as_bool k read.0 f.lock_aware new ms read.2 held.1 in (
            slot_other (list_shape change_shape) (codes "mutations") k f.mutations read.0 ms refl held.0,
            slot_put as_bool k read.0 f.lock_aware new ms read.2,
            slot_other (list_shape verdict_shape) (codes "verdicts") k f.verdicts read.0 ms refl held.2,
            omega (arith, more.0, more.1, more.2, held.3),
          ),
    )) c.take_into_slot-in-lock_aware.ensures)

pub returns-in-verdicts : goal.returns-in-verdicts
returns-in-verdicts c =
    let f = c.args.self.now in
    let new = c.take_into_slot-in-verdicts.new.slot in
    let k = codes "verdicts" in
    rw c.in-verdicts.is (if_some_weaker c.take_into_slot-in-verdicts.result (λ _ read. (
      read.0,
      read.1,
      λ ms held.
          let more = count_new (list_shape verdict_shape) k read.0 f.verdicts new ms read.2 held.2 in (
            slot_other (list_shape change_shape) (codes "mutations") k f.mutations read.0 ms refl held.0,
            slot_other as_bool (codes "lock_aware") k f.lock_aware read.0 ms refl held.1,
            slot_put (list_shape verdict_shape) k read.0 f.verdicts new ms read.2,
            omega (arith, more.0, more.1, more.2, held.3),
          ),
    )) c.take_into_slot-in-verdicts.ensures)
