-- The columns of the resolvers so far.
use Rattle.std.proofs.Common.{◌≡◌}
use Rattle.proxy_state.specs.Learning.{columns_of_replies}
use Rattle.proxy_state.proofs.columns.columns_of_replies.Given as goal

abbrev pub invariant-loop-resolver : goal.invariant-loop-resolver
invariant-loop-resolver l = l.columns.items ≡ columns_of_replies l.resolver l.lists l.replies
