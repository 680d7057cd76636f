-- The resolvers so far have the numbers of their places.
use Rattle.std.proofs.Common.{◌≡◌, take}
use Rattle.model.specs.Shares.{each_below}
use Rattle.locked_resolvers.proofs.all_resolvers.AllResolvers.new.Given as goal

abbrev pub invariant-loop-number : goal.invariant-loop-number
invariant-loop-number g l = take l.number l.resolvers ≡ each_below l.number
