-- The proxy has one end more.
use Rattle.std.proofs.Common.{◌≡◌, ◌∙◌, ◌+◌, [], ◌∷◌, ℕ, zero, suc, List, sym, ap, subst, length, length-append, drop, map, arith}
use Rattle.std.specs.Prelude.{All}
use Rattle.std.specs.Vec.Iter.{into_iter_items}
use Rattle.inboxes.specs.Blanks.{BlankSenderView}
use Rattle.inboxes.specs.Ends.{IsEach, SenderView, fresh_sender}
use Rattle.inboxes.specs.Places.{Place}
use Rattle.inboxes.proofs.Each.{drop_next, each_grown}
use Rattle.inboxes.proofs.Sent.{fresh_are_open, fresh_are_senders}
use Rattle.inboxes.proofs.blank_inboxes.name_senders_of_proxy.Goals as goal

abbrev places_of : List BlankSenderView → List Place
places_of senders = map (λ (s : BlankSenderView). s.place) senders

pub loop-sender-preserved : goal.loop-sender-preserved
loop-sender-preserved g c =
    let places = g.M.Channels.places in
    let ends = c.loop-sender.ends.items in
    let done = length ends in
    let proxy = c.into_parts-proxy.result.0 in
    let next = c.in-Some.ensures.steps.0 in
    let count = ap (λ (s : List BlankSenderView). length s) next in
    let rest = into_iter_items c.next.new.self in
    let after = c.push_reserved.new.self.items in
    let grown = c.push_reserved.ensures.items in
    let size : c.len-resolver.result ≡ done = omega (arith, c.len-resolver.ensures, c.loop-sender.ends.ok) in
    let mine = subst (λ (s : List BlankSenderView). All (λ (s : BlankSenderView). s.proxy ≡ proxy) s) next c.loop-sender.invariant.mine in
    let (at, later) = drop_next places done c.in-Some.sender.place (places_of rest) (sym c.loop-sender.invariant.left ∙ ap places_of next) in
    let more : length after ≡ done + 1 = ap (λ (xs : List SenderView). length xs) grown ∙ length-append ends (c.named.result ∷ []) in
    record {
      ends = each_grown (fresh_sender proxy) ends after c.named.result c.loop-sender.invariant.ends
          (c.named.ensures
          ∙ ap (λ (r : ℕ). fresh_sender c.in-Some.sender.proxy r) size
          ∙ ap (λ (p : ℕ). fresh_sender p done) (mine zero c.in-Some.sender (omega arith))) grown;
      left = sym later ∙ ap (λ (n : ℕ). drop n places) (sym more);
      mine = λ k d within. mine (suc k) d (omega (arith, within));
      all = omega (arith, count, more, c.loop-sender.invariant.all);
      room = omega (arith, c.loop-sender.invariant.room, c.push_reserved.ensures.capacity);
      count = omega (arith, count, c.loop-sender.invariant.count, c.in-Some.ensures.steps.1);
    }

pub new-requires-clause-senders : goal.new-requires-clause-senders
new-requires-clause-senders g c =
    let resolvers = g.N.Naming.cells.config.resolvers in
    let proxy = c.into_parts-proxy.result.0 in
    let ends = c.loop-sender.ends.items in
    let all : length ends ≡ resolvers = grind arith in
    fresh_are_senders proxy resolvers ends (subst (λ (n : ℕ). IsEach (fresh_sender proxy) n ends) all c.loop-sender.invariant.ends)

pub new-requires-clause-not_ended : goal.new-requires-clause-not_ended
new-requires-clause-not_ended g c =
    let proxy = c.into_parts-proxy.result.0 in
    let ends = c.loop-sender.ends.items in
    fresh_are_open proxy (length ends) ends c.loop-sender.invariant.ends
