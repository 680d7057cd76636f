-- One reply that is not to the record.
use Rattle.std.proofs.Common.{sym, arith, rules}
use Rattle.model.specs.Finishing.{reply_from, is_reply_to}
use Rattle.proxy_state.proofs.BelowLaws.{one_fails}
use Rattle.proxy_state.proofs.disagreements.are_replies_to.Goals as goal

pub returns-then-not-is_reply_to : goal.returns-then-not-is_reply_to
returns-then-not-is_reply_to c =
    sym (one_fails (λ r. is_reply_to c.args.config.now c.args.begun.now.rec r (reply_from c.args.replies.now r)) c.args.config.now.resolvers c.loop-resolver.resolver (omega arith) (search rules))
