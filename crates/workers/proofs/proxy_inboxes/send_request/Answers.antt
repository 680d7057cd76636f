-- The message is the request, and goes to its resolver.
use Rattle.std.proofs.Common.{◌≡◌, ◌∙◌, ap, sym, subst, ℕ, inr}
use Rattle.locked_resolvers.specs.Requests.{RequestView}
use Rattle.inboxes.specs.declared.views.MessageView.{MessageView}
use Rattle.inboxes.specs.Sending.{IsSentTo}
use Rattle.inboxes.specs.MessageViews.{request_view}
use Rattle.inboxes.proofs.Sent.{changed}
use Rattle.workers.proofs.proxy_inboxes.send_request.Goals as goal

pub send-sent-requires-clause-to_it : goal.send-sent-requires-clause-to_it
send-sent-requires-clause-to_it g c =
    inr (
      ap (λ (t : MessageView). t.kind) c.request-message.ensures,
      ap (λ (t : MessageView). t.to) c.request-message.ensures
          ∙ sym (c.resolver-resolver.ensures ∙ ap (λ (q : RequestView). q.plain.resolver) c.pending.view_is),
    )

pub returns : goal.returns
returns g c =
    let pending = c.args.pending in
    let before = c.args.senders.now in
    let after = c.send-sent.new.self in
    let to : c.resolver-resolver.result ≡ pending.plain.resolver =
    c.resolver-resolver.ensures ∙ ap (λ (q : RequestView). q.plain.resolver) c.pending.view_is in
    let is : c.request-message.result ≡ request_view before.proxy pending.plain.resolver pending.plain.row =
    c.request-message.ensures
    ∙ ap (λ (p : ℕ). request_view p pending.plain.resolver pending.plain.row) c.proxy.ensures in
    subst (λ (r : ℕ). IsSentTo r (request_view before.proxy pending.plain.resolver pending.plain.row) before after) to
    (subst (λ (t : MessageView). IsSentTo c.resolver-resolver.result t before after) is
    (changed c.send-sent.result c.resolver-resolver.result c.request-message.result before after c.send-sent.ensures.sent c.send-sent.ensures.refused))
