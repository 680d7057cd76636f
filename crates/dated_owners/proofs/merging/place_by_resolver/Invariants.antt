-- The owners from place i on have the date.
use Rattle.std.proofs.Common.{drop}
use Rattle.dated_owners.specs.MergedOwners.{AreDated}
use Rattle.dated_owners.proofs.merging.place_by_resolver.Given as goal

abbrev pub invariant-loop-i : goal.invariant-loop-i
invariant-loop-i l = AreDated l.owner.date (drop l.i l.merged)
