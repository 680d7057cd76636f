use Rattle.model.specs.Stamps.{stamped_mutation}
use Rattle.mutation.specs.Admitted.{from_admitted}
use Rattle.mutation.specs.Faults.{fault_of_mutation}
use Rattle.mutation.proofs.LimitLaws.{faultless_next}
use Rattle.mutation.proofs.StampedChanges.{made_next}
use Rattle.mutation.proofs.stamped.stamped_changes.Goals as goal

pub loop-mutation-preserved : goal.loop-mutation-preserved
loop-mutation-preserved c = record {
  read = made_next from_admitted (stamped_mutation c.args.version c.args.number) c.args.mutations.now c.loop-mutation.mutation-index c.mutation-item.result c.loop-mutation.changes.items c.push.new.self.items c.in_ok-stamped_change.field-0 c.loop-mutation-test.true c.mutation-item.is c.in_ok-stamped_change.ensures c.in_ok-push.ensures.items c.loop-mutation.invariant.read;
  faultless = faultless_next from_admitted fault_of_mutation c.args.mutations.now c.loop-mutation.mutation-index c.loop-mutation.invariant.faultless;
}
