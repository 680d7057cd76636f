-- The copy for the tag, and none without a tag.
use Rattle.std.proofs.Common.{ap, refl, Some, None}
use Rattle.metadata.proofs.PrivateCopies.{copy_of, has_copy}
use Rattle.metadata.proofs.private_copies.copy_of_set.Goals as goal

pub returns-in_ok-copy_for-in-Some-clause-value : goal.returns-in_ok-copy_for-in-Some-clause-value
returns-in_ok-copy_for-in-Some-clause-value c =
    copy_of c.args.entries.now c.args.key.now c.args.value.now c.as_slice.result.now c.as_slice-2.result.now (Some c.in-Some.tag) (Some c.in_ok-copy_for-in-Some.field-0)
    c.in-Some.ensures c.as_slice.ensures c.as_slice-2.ensures (ap Some c.in_ok-copy_for-in-Some.ensures)

pub returns-in_err-copy_for-in-Some-clause-no_allocation : goal.returns-in_err-copy_for-in-Some-clause-no_allocation
returns-in_err-copy_for-in-Some-clause-no_allocation c =
    has_copy c.args.entries.now c.args.key.now c.args.value.now c.as_slice.result.now c.as_slice-2.result.now c.in-Some.tag
    c.in-Some.ensures c.as_slice.ensures c.as_slice-2.ensures

pub returns-in-None-clause-value : goal.returns-in-None-clause-value
returns-in-None-clause-value c =
    copy_of c.args.entries.now c.args.key.now c.args.value.now c.as_slice.result.now c.as_slice-2.result.now None None
    c.in-None.ensures c.as_slice.ensures c.as_slice-2.ensures refl
