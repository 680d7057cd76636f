-- The last message is sent through one end more.
use Rattle.std.proofs.Common.{length, refl, sym, ap, ◌∙◌, subst, arith}
use Rattle.std.proofs.lemmas.Option.{slice_get_read}
use Rattle.inboxes.specs.declared.views.MessageView.{MessageView}
use Rattle.inboxes.specs.Sending.{IsSent}
use Rattle.inboxes.specs.MessageViews.{end_view}
use Rattle.inboxes.proofs.Sent.{sent_next, sent_or_gone, sent_to_senders}
use Rattle.inboxes.proofs.proxy_senders.send_last_messages.Goals as goal

pub send-sent-requires : goal.send-sent-requires
send-sent-requires g c =
    let first = c.args.ends.now.items in
    let ends = c.loop-resolver.ends.items in
    let k = c.loop-resolver.resolver in
    let e = c.index_mut.result.now in
    let at = slice_get_read ends (length ends) k e refl (omega arith) c.index_mut.ensures.value in
    ap (λ (t : MessageView). t.proxy) c.end.ensures
    ∙ sym (sent_to_senders k c.args.proxy (length first) (end_view c.args.proxy) first ends c.loop-resolver.invariant c.requires k e (omega arith) at)

pub loop-resolver-preserved : goal.loop-resolver-preserved
loop-resolver-preserved g c =
    let message = end_view c.args.proxy in
    let first = c.args.ends.now.items in
    let ends = c.loop-resolver.ends.items in
    let k = c.loop-resolver.resolver in
    let e = c.index_mut.result.now in
    let after = c.send-sent.new.self in
    let at = slice_get_read ends (length ends) k e refl (omega arith) c.index_mut.ensures.value in
    let sent = subst (λ (m : MessageView). IsSent m e after) c.end.ensures (sent_or_gone c.send-sent.result c.end.result e after c.send-sent.ensures.sent c.send-sent.ensures.refused) in
    sent_next k message first ends e after c.loop-resolver.invariant at sent
