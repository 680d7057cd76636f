-- Each resolver so far has judged the row.
use Rattle.std.proofs.Common.{◌≡◌, [], filter, nat_le, slice_index}
use Rattle.model.specs.Shares.{each_below}
use Rattle.turn_world.proofs.finishing.first_not_judged.Given as goal

abbrev pub invariant-loop-resolver : goal.invariant-loop-resolver
invariant-loop-resolver l = filter (λ r. nat_le (slice_index l.judged_counts r) l.row) (each_below l.resolver) ≡ []
