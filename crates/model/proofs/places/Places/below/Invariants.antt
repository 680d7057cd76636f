-- The places so far are those below.
use Rattle.std.proofs.Common.{◌≡◌}
use Rattle.model.specs.Shares.{each_below}
use Rattle.model.proofs.places.Places.below.Given as goal

abbrev pub invariant-loop-place : goal.invariant-loop-place
invariant-loop-place l = l.places ≡ each_below l.place
