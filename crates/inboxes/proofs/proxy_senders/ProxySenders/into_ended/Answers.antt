-- The last message was sent through all ends, of which none had ended.
use Rattle.std.proofs.Common.{subst}
use Rattle.inboxes.specs.Ends.{AreSenders, ProxyView}
use Rattle.inboxes.specs.Sending.{AreEndedSenders}
use Rattle.inboxes.specs.MessageViews.{end_view}
use Rattle.inboxes.proofs.Sent.{all_ended, sent_senders}
use Rattle.inboxes.proofs.proxy_senders.ProxySenders.into_ended.Goals as goal

pub returns-clause-senders : goal.returns-clause-senders
returns-clause-senders g c =
    let proxy = c.self.inside.proxy in
    let resolvers = g.N.Naming.cells.config.resolvers in
    let before = c.self.inside.ends.items in
    let after = c.send_last_messages.new.ends.items in
    subst (λ (v : ProxyView). AreSenders v.proxy resolvers after) c.self.view_is
    (sent_senders proxy resolvers (end_view proxy) before after c.send_last_messages.ensures c.self.invariant.0)

pub returns-clause-ended : goal.returns-clause-ended
returns-clause-ended g c =
    let proxy = c.self.inside.proxy in
    let before = c.self.inside.ends.items in
    let after = c.send_last_messages.new.ends.items in
    subst (λ (v : ProxyView). AreEndedSenders v.proxy after) c.self.view_is
    (all_ended proxy before after c.send_last_messages.ensures c.self.invariant.1)
