-- The starts from the last one back are tried, but for those that are left, and they become fewer.
use Rattle.std.proofs.Common.{length}
use Rattle.dated_owners.proofs.AskedStarts.{IsTried}
use Rattle.dated_owners.proofs.walks.walk_range.Given as goal

abbrev pub invariant-loop-key : goal.invariant-loop-key
invariant-loop-key l = IsTried l.pieces.entries l.walk (record { begin = l.begin; end = l.end }) l.fn.flags l.left l.flags

abbrev pub decreases-loop-key : goal.decreases-loop-key
decreases-loop-key l = length l.left
