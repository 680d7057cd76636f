-- The least so far, with those that are left, is the least of all.
use Rattle.std.proofs.Common.{◌≡◌, drop, map}
use Rattle.model.specs.Verdicts.{least_of, joined}
use Rattle.proxy_state.specs.Learning.{by_columns}
use Rattle.proxy_state.proofs.columns.joined_verdict_in_columns.Given as goal

abbrev pub invariant-loop-resolver : goal.invariant-loop-resolver
invariant-loop-resolver l =
    least_of l.least (joined (map (λ r. by_columns l.columns r 0 l.number) (drop l.resolver-index l.list)))
    ≡ joined (map (λ r. by_columns l.columns r 0 l.number) l.list)
