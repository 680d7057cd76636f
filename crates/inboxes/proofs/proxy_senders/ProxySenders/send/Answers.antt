-- The end to the resolver is the proxy's, and stays so; and no End is sent.
use Rattle.std.proofs.Common.{length, refl, sym, ap, ◌∙◌, arith}
use Rattle.std.proofs.lemmas.Option.{slice_get_read}
use Rattle.inboxes.specs.Ends.{ProxyView}
use Rattle.inboxes.proofs.Each.{senders_set}
use Rattle.inboxes.proofs.Sent.{open_set, sent_or_gone, sent_same, still_open}
use Rattle.inboxes.proofs.proxy_senders.ProxySenders.send.Goals as goal

pub send-requires : goal.send-requires
send-requires g c =
    let ends = c.self.inside.ends.items in
    let end = c.index_mut.result.now in
    let count = ap (λ (v : ProxyView). length v.ends) c.self.view_is in
    let at = slice_get_read ends (length ends) c.args.resolver end refl (omega (arith, c.requires.resolver, count)) c.index_mut.ensures.value in
    c.requires.mine ∙ sym (ap (λ (v : ProxyView). v.proxy) c.self.view_is) ∙ sym (c.self.invariant.0.1 c.args.resolver end at).1

pub invariant_of-self : goal.invariant_of-self
invariant_of-self g c =
    let k = c.args.resolver in
    let message = c.args.message in
    let ends = c.self.inside.ends.items in
    let end = c.index_mut.result.now in
    let after = c.send.new.self in
    let count = ap (λ (v : ProxyView). length v.ends) c.self.view_is in
    let at = slice_get_read ends (length ends) k end refl (omega (arith, c.requires.resolver, count)) c.index_mut.ensures.value in
    let sent = sent_or_gone c.send.result message end after c.send.ensures.sent c.send.ensures.refused in
    let same = sent_same message end after sent in (
      senders_set c.self.inside.proxy g.N.Naming.cells.config.resolvers k ends end after c.self.invariant.0 at same.0 same.1,
      open_set k ends after c.self.invariant.1 (still_open k message end after c.requires.to_it sent (c.self.invariant.1 k end at)),
    )
