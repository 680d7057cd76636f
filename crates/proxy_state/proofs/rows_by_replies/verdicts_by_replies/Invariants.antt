-- The verdicts of the resolvers so far.
use Rattle.std.proofs.Common.{◌≡◌, map}
use Rattle.model.specs.Shares.{each_below}
use Rattle.model.specs.Finishing.{row_from, verdict_in_row}
use Rattle.proxy_state.proofs.rows_by_replies.verdicts_by_replies.Given as goal

abbrev pub invariant-loop-resolver : goal.invariant-loop-resolver
invariant-loop-resolver l = l.verdicts.items ≡ map (λ r. verdict_in_row (row_from l.replies l.place r) l.number) (each_below l.resolver)
