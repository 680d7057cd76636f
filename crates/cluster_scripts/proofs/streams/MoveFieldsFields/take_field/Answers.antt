use Rattle.std.proofs.Common.{codes, refl, arith}
use Rattle.scripts.specs.BatchShapes.{range_shape}
use Rattle.scripts.specs.Shapes.{number_shape}
use Rattle.scripts.proofs.StreamObjectLemmas.{slot_put, slot_other, count_new, if_some_weaker}
use Rattle.cluster_scripts.proofs.streams.MoveFieldsFields.take_field.Goals as goal

pub returns-in-range : goal.returns-in-range
returns-in-range c =
    let f = c.args.self.now in
    let new = c.take_into_slot.new.slot in
    let k = codes "range" in
    rw c.in-range.is (if_some_weaker c.take_into_slot.result (λ _ read. (
      read.0,
      read.1,
      λ ms held.
          let more = count_new range_shape k read.0 f.range new ms read.2 held.0 in (
            slot_put range_shape k read.0 f.range new ms read.2,
            slot_other number_shape (codes "resolver") k f.resolver read.0 ms refl held.1,
            omega (arith, more.0, more.1, more.2, held.2),
          ),
    )) c.take_into_slot.ensures)

pub returns-in-resolver : goal.returns-in-resolver
returns-in-resolver c =
    let f = c.args.self.now in
    let new = c.take_into_slot-in-resolver.new.slot in
    let k = codes "resolver" in
    rw c.in-resolver.is (if_some_weaker c.take_into_slot-in-resolver.result (λ _ read. (
      read.0,
      read.1,
      λ ms held.
          let more = count_new number_shape k read.0 f.resolver new ms read.2 held.1 in (
            slot_other range_shape (codes "range") k f.range read.0 ms refl held.0,
            slot_put number_shape k read.0 f.resolver new ms read.2,
            omega (arith, more.0, more.1, more.2, held.2),
          ),
    )) c.take_into_slot-in-resolver.ensures)
