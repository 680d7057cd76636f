-- The verdicts of the resolvers so far.
use Rattle.std.proofs.Common.{◌≡◌, map}
use Rattle.model.specs.Shares.{each_below}
use Rattle.proxy_state.specs.Learning.{by_columns}
use Rattle.proxy_state.proofs.columns.verdicts_in_columns.Given as goal

abbrev pub invariant-loop-resolver : goal.invariant-loop-resolver
invariant-loop-resolver l = l.verdicts.items ≡ map (λ r. by_columns l.columns r 0 l.number) (each_below l.resolver)
