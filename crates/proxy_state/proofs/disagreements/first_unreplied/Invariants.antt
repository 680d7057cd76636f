-- Each resolver so far has replied.
use Rattle.std.proofs.Common.{◌≡◌, [], filter, not, is_some}
use Rattle.model.specs.Shares.{each_below}
use Rattle.model.specs.Finishing.{reply_from}
use Rattle.proxy_state.proofs.disagreements.first_unreplied.Given as goal

abbrev pub invariant-loop-resolver : goal.invariant-loop-resolver
invariant-loop-resolver l = filter (λ r. not (is_some (reply_from l.replies r))) (each_below l.resolver) ≡ []
