-- A mutation without a fault has a place for its stamp.
use Rattle.std.proofs.Common.{◌≡◌, ◌∙◌, ap, None, rules}
use Rattle.model.specs.Stamps.{SetStamped}
use Rattle.mutation.specs.Faults.{fault_of_mutation, has_room_for_stamp}
use Rattle.mutation.proofs.LimitLaws.{place_of_stamp}
use Rattle.mutation.proofs.stamped.into_stamped_change.Goals as goal

pub stamped_value-requires : goal.stamped_value-requires
stamped_value-requires c =
    let text : c.as_slice.result.now ≡ c.in-SetStamped.value = search rules in
    let faultless : fault_of_mutation (SetStamped c.in-SetStamped.key c.in-SetStamped.value) ≡ None = search rules in
    ap has_room_for_stamp text ∙ place_of_stamp c.in-SetStamped.key c.in-SetStamped.value faultless
