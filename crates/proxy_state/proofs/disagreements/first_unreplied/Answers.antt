-- The first without a reply.
use Rattle.std.proofs.Common.{sym, not, is_some, arith, rules}
use Rattle.model.specs.Finishing.{reply_from}
use Rattle.proxy_state.proofs.BelowLaws.{first_passing}
use Rattle.proxy_state.proofs.disagreements.first_unreplied.Goals as goal

pub returns-then-is_none : goal.returns-then-is_none
returns-then-is_none c =
    sym (first_passing (λ r. not (is_some (reply_from c.args.replies.now r))) c.args.resolvers c.loop-resolver.resolver (omega arith) c.loop-resolver.invariant (search rules))
