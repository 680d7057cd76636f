-- The owners before are needless.
use Rattle.std.proofs.Common.{◌≡◌, drop}
use Rattle.dated_owners.specs.LaterOwners.{needed}
use Rattle.dated_owners.proofs.later_owners.count_needless.Given as goal

abbrev pub invariant-loop-count : goal.invariant-loop-count
invariant-loop-count l = needed l.oldest (drop l.count l.owners) ≡ needed l.oldest l.owners
