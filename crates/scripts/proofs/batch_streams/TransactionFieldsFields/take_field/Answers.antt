use Rattle.std.proofs.Common.{codes, refl, arith}
use Rattle.serde_json.specs.Find.{as_bool}
use Rattle.scripts.specs.BatchShapes.{range_shape}
use Rattle.scripts.specs.ChangeShapes.{mutation_shape}
use Rattle.scripts.specs.Shapes.{list_shape, number_shape}
use Rattle.scripts.proofs.StreamObjectLemmas.{slot_put, slot_other, count_new, if_some_weaker}
use Rattle.scripts.proofs.batch_streams.TransactionFieldsFields.take_field.Goals as goal

pub returns-in-snapshot : goal.returns-in-snapshot
returns-in-snapshot c =
    let f = c.args.self.now in
    let new = c.take_into_slot.new.slot in
    let k = codes "snapshot" in
    rw c.in-snapshot.is (if_some_weaker c.take_into_slot.result (λ _ read. (
      read.0,
      read.1,
      λ ms held.
          let more = count_new number_shape k read.0 f.snapshot new ms read.2 held.0 in (
            slot_put number_shape k read.0 f.snapshot new ms read.2,
            slot_other (list_shape range_shape) (codes "reads") k f.reads read.0 ms refl held.1,
            slot_other (list_shape range_shape) (codes "writes") k f.writes read.0 ms refl held.2,
            slot_other (list_shape mutation_shape) (codes "mutations") k f.mutations read.0 ms refl held.3,
            slot_other as_bool (codes "lock_aware") k f.lock_aware read.0 ms refl held.4,
            omega (arith, more.0, more.1, more.2, held.5),
          ),
    )) c.take_into_slot.ensures)

pub returns-in-reads : goal.returns-in-reads
returns-in-reads c =
    let f = c.args.self.now in
    let new = c.take_into_slot-in-reads.new.slot in
    let k = codes "reads" in
    rw c.in-reads.is (if_some_weaker c.take_into_slot-in-reads.result (λ _ read. (
      read.0,
      read.1,
      λ ms held.
          let more = count_new (list_shape range_shape) k read.0 f.reads new ms read.2 held.1 in (
            slot_other number_shape (codes "snapshot") k f.snapshot read.0 ms refl held.0,
            slot_put (list_shape range_shape) k read.0 f.reads new ms read.2,
            slot_other (list_shape range_shape) (codes "writes") k f.writes read.0 ms refl held.2,
            slot_other (list_shape mutation_shape) (codes "mutations") k f.mutations read.0 ms refl held.3,
            slot_other as_bool (codes "lock_aware") k f.lock_aware read.0 ms refl held.4,
            omega (arith, more.0, more.1, more.2, held.5),
          ),
    )) c.take_into_slot-in-reads.ensures)

pub returns-in-writes : goal.returns-in-writes
returns-in-writes c =
    let f = c.args.self.now in
    let new = c.take_into_slot-in-writes.new.slot in
    let k = codes "writes" in
    rw c.in-writes.is (if_some_weaker c.take_into_slot-in-writes.result (λ _ read. (
      read.0,
      read.1,
      λ ms held.
          let more = count_new (list_shape range_shape) k read.0 f.writes new ms read.2 held.2 in (
            slot_other number_shape (codes "snapshot") k f.snapshot read.0 ms refl held.0,
            slot_other (list_shape range_shape) (codes "reads") k f.reads read.0 ms refl held.1,
            slot_put (list_shape range_shape) k read.0 f.writes new ms read.2,
            slot_other (list_shape mutation_shape) (codes "mutations") k f.mutations read.0 ms refl held.3,
            slot_other as_bool (codes "lock_aware") k f.lock_aware read.0 ms refl held.4,
            omega (arith, more.0, more.1, more.2, held.5),
          ),
    )) c.take_into_slot-in-writes.ensures)

pub returns-in-mutations : goal.returns-in-mutations
returns-in-mutations c =
    let f = c.args.self.now in
    let new = c.take_into_slot-in-mutations.new.slot in
    let k = codes "mutations" in
    rw c.in-mutations.is (if_some_weaker c.take_into_slot-in-mutations.result (λ _ read. (
      read.0,
      read.1,
      λ ms held.
          let more = count_new (list_shape mutation_shape) k read.0 f.mutations new ms read.2 held.3 in (
            slot_other number_shape (codes "snapshot") k f.snapshot read.0 ms refl held.0,
            slot_other (list_shape range_shape) (codes "reads") k f.reads read.0 ms refl held.1,
            slot_other (list_shape range_shape) (codes "writes") k f.writes read.0 ms refl held.2,
            slot_put (list_shape mutation_shape) k read.0 f.mutations new ms read.2,
            slot_other as_bool (codes "lock_aware") k f.lock_aware read.0 ms refl held.4,
            omega (arith, more.0, more.1, more.2, held.5),
          ),
    )) c.take_into_slot-in-mutations.ensures)

pub returns-in-lock_aware : goal.returns-in-lock_aware
returns-in-lock_aware c =
    let f = c.args.self.now in
    let new = c.take_into_slot-in-lock_aware.new.slot in
    let k = codes "lock_aware" in
    rw c.in-lock_aware.is (if_some_weaker c.take_into_slot-in-lock_aware.result (λ _ read. (
      read.0,
      read.1,
      λ ms held.
          let more = count_new as_bool k read.0 f.lock_aware new ms read.2 held.4 in (
            slot_other number_shape (codes "snapshot") k f.snapshot read.0 ms refl held.0,
            slot_other (list_shape range_shape) (codes "reads") k f.reads read.0 ms refl held.1,
            slot_other (list_shape range_shape) (codes "writes") k f.writes read.0 ms refl held.2,
            slot_other (list_shape mutation_shape) (codes "mutations") k f.mutations read.0 ms refl held.3,
            slot_put as_bool k read.0 f.lock_aware new ms read.2,
            omega (arith, more.0, more.1, more.2, held.5),
          ),
    )) c.take_into_slot-in-lock_aware.ensures)
