-- The ranges so far, and those that the changes which are left clear, are all that are cleared.
use Rattle.std.proofs.Common.{◌≡◌, ◌++◌, drop}
use Rattle.metadata.specs.Overwrites.{cleared_ranges, lent_ranges}
use Rattle.metadata.proofs.applying.add_cleared_ranges.Given as goal

abbrev pub invariant-loop-change : goal.invariant-loop-change
invariant-loop-change l =
    lent_ranges l.ranges.items ++ cleared_ranges (drop l.change-index l.changes) ≡ lent_ranges l.fn.ranges.items ++ cleared_ranges l.changes
