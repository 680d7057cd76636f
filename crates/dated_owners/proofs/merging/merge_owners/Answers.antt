-- One owner more is merged.
use Rattle.std.proofs.Common.{arith, refl, ◌+◌}
use Rattle.dated_owners.proofs.MergedOwnerLaws.{next_merged}
use Rattle.dated_owners.proofs.merging.merge_owners.Goals as goal

pub loop-i-preserved : goal.loop-i-preserved
loop-i-preserved c =
    next_merged c.args.owners.now c.loop-i.merged.items c.push_first_if_needed.new.merged.items _ c.loop-i.i (c.loop-i.i + 1) (omega arith) refl refl c.loop-i.invariant c.in_ok-push_first_if_needed.ensures
