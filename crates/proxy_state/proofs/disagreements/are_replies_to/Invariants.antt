-- Each resolver so far replied to the record.
use Rattle.std.proofs.Common.{◌≡◌, true}
use Rattle.std.specs.List.{list_all}
use Rattle.model.specs.Shares.{each_below}
use Rattle.model.specs.Finishing.{reply_from, is_reply_to}
use Rattle.proxy_state.proofs.disagreements.are_replies_to.Given as goal

abbrev pub invariant-loop-resolver : goal.invariant-loop-resolver
invariant-loop-resolver l = list_all (λ r. is_reply_to l.config l.begun.rec r (reply_from l.replies r)) (each_below l.resolver) ≡ true
