-- The resolvers so far, in the order of their numbers.
use Rattle.std.proofs.Common.{◌≡◌}
use Rattle.model.specs.Shares.{each_below}
use Rattle.uses.proofs.whole_cluster.new_resolvers.Given as goal

abbrev pub invariant-loop-number : goal.invariant-loop-number
invariant-loop-number g l = l.made.items ≡ each_below l.number
