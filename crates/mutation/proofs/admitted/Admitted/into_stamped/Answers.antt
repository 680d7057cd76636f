-- The limits of the ranges and of the changes still hold.
use Rattle.std.proofs.Common.{map}
use Rattle.mutation.specs.Admitted.{from_admitted}
use Rattle.mutation.proofs.LimitLaws.{stamped_faultless}
use Rattle.mutation.proofs.admitted.Admitted.into_stamped.Goals as goal

pub of_parts-requires : goal.of_parts-requires
of_parts-requires c =
    let ranges = c.self.inside.ranges in
    rw (c.in_ok-changes.ensures)
    (stamped_faultless c.args.version c.args.number (record { snapshot = c.self.inside.snapshot; reads = ranges.reads; writes = ranges.writes; mutations = map from_admitted c.self.inside.mutations; lock_aware = c.self.inside.lock_aware }) c.self.invariant)
