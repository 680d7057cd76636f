-- The owners before are equal.
use Rattle.std.proofs.Common.{◌≡◌, drop}
use Rattle.dated_owners.specs.LaterOwners.{are_same_owners}
use Rattle.dated_owners.proofs.later_owners.are_same_owners.Given as goal

abbrev pub invariant-loop-i : goal.invariant-loop-i
invariant-loop-i l = are_same_owners (drop l.i l.owners) (drop l.i l.others) ≡ are_same_owners l.owners l.others
