-- The ranges so far, and those that the transactions which are left clear, are all that are cleared.
use Rattle.std.proofs.Common.{◌≡◌, ◌++◌, drop}
use Rattle.metadata.specs.Overwrites.{changes_of, cleared_ranges, lent_ranges}
use Rattle.metadata.proofs.applying.cleared_ranges.Given as goal

abbrev pub invariant-loop-transaction : goal.invariant-loop-transaction
invariant-loop-transaction l =
    lent_ranges l.ranges.items ++ cleared_ranges (changes_of l.locked (drop l.transaction-index l.transactions)) ≡ cleared_ranges (changes_of l.locked l.transactions)
