-- The ends under the lock are this proxy's.
use Rattle.std.proofs.Common.{◌∙◌, subst, ℕ}
use Rattle.inboxes.specs.Ends.{AreSenders}
use Rattle.inboxes.specs.Sending.{AreEndedSenders}
use Rattle.workers.proofs.proxy_inboxes.ProxyInboxes.end.Goals as goal

pub returns-clause-senders : goal.returns-clause-senders
returns-clause-senders g c =
    subst (λ (p : ℕ). AreSenders p g.N.Naming.cells.config.resolvers c.into_ended.result.items) (c.await_own_ends.ensures ∙ c.self.view_is) c.into_ended.ensures.senders

pub returns-clause-ended : goal.returns-clause-ended
returns-clause-ended g c =
    subst (λ (p : ℕ). AreEndedSenders p c.into_ended.result.items) (c.await_own_ends.ensures ∙ c.self.view_is) c.into_ended.ensures.ended
