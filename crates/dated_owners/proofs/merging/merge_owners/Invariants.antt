-- The merged owners, and those that are left, give the same walks as all.
use Rattle.std.proofs.Common.{◌++◌, drop}
use Rattle.dated_owners.specs.MergedOwners.{WalkAlike}
use Rattle.dated_owners.proofs.merging.merge_owners.Given as goal

abbrev pub invariant-loop-i : goal.invariant-loop-i
invariant-loop-i l = WalkAlike l.owners (l.merged.items ++ drop l.i l.owners)
