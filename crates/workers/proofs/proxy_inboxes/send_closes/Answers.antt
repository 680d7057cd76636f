-- A Close is sent through one end more.
use Rattle.std.proofs.Common.{◌≡◌, ap, ◌∙◌, subst, inl}
use Rattle.inboxes.specs.declared.views.MessageView.{MessageView}
use Rattle.inboxes.specs.Sending.{IsSentTo}
use Rattle.inboxes.specs.MessageViews.{close_view}
use Rattle.inboxes.proofs.Sent.{changed, to_next, to_proxy}
use Rattle.workers.proofs.proxy_inboxes.send_closes.Goals as goal

pub send-sent-requires-clause-to_it : goal.send-sent-requires-clause-to_it
send-sent-requires-clause-to_it g c = inl (ap (λ (t : MessageView). t.kind) c.close-message.ensures)

pub loop-resolver-preserved : goal.loop-resolver-preserved
loop-resolver-preserved g c =
    let first = c.args.senders.now in
    let before = c.loop-resolver.senders in
    let after = c.send-sent.new.self in
    let k = c.loop-resolver.resolver in
    let is : c.close-message.result ≡ close_view first.proxy = c.close-message.ensures ∙ ap close_view (c.proxy.ensures ∙ c.loop-resolver.invariant.proxy) in
    let sent = subst (λ (t : MessageView). IsSentTo k t before after) is (changed c.send-sent.result k c.close-message.result before after c.send-sent.ensures.sent c.send-sent.ensures.refused) in
    record {
      proxy = to_proxy k (close_view first.proxy) before after sent ∙ c.loop-resolver.invariant.proxy;
      sent = to_next k (close_view first.proxy) first.ends before after c.loop-resolver.invariant.sent sent;
    }
