-- The first that has not judged the row.
use Rattle.std.proofs.Common.{sym, nat_le, length, slice_index, arith}
use Rattle.std.proofs.lemmas.Bool.{le-leb}
use Rattle.proxy_state.proofs.BelowLaws.{first_passing}
use Rattle.turn_world.proofs.finishing.first_not_judged.Goals as goal

pub returns-then-judged_counts-resolver : goal.returns-then-judged_counts-resolver
returns-then-judged_counts-resolver c =
    sym (first_passing (λ r. nat_le (slice_index c.args.judged_counts.now r) c.args.row) (length c.args.judged_counts.now) c.loop-resolver.resolver (omega arith) c.loop-resolver.invariant (le-leb (slice_index c.args.judged_counts.now c.loop-resolver.resolver) c.args.row c.if-judged_counts-resolver.true))
