use Rattle.model.specs.Stamps.{stamped_mutation}
use Rattle.mutation.specs.Admitted.{from_admitted}
use Rattle.mutation.specs.Faults.{fault_of_mutation}
use Rattle.mutation.proofs.LimitLaws.{faultless_rest}
use Rattle.mutation.proofs.StampedChanges.{made_one}
use Rattle.mutation.proofs.stamped.into_stamped_changes.Goals as goal

pub loop-mutation-preserved : goal.loop-mutation-preserved
loop-mutation-preserved c = record {
  read = made_one from_admitted (stamped_mutation c.args.version c.args.number) _ _ c.in-Some.mutation c.loop-mutation.changes.items c.push.new.self.items c.in_ok-into_stamped_change.field-0 _ c.in-Some.ensures.steps.0 c.in_ok-into_stamped_change.ensures c.in_ok-push.ensures.items c.loop-mutation.invariant.read;
  faultless = faultless_rest from_admitted fault_of_mutation _ c.in-Some.mutation _ c.in-Some.ensures.steps.0 c.loop-mutation.invariant.faultless;
}
