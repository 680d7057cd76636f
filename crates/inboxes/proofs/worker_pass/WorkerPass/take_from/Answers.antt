-- The message that was taken is counted, and the pass is of the same inbox.
use Rattle.std.proofs.Common.{◌≡◌, ◌+◌, ◌-◌, ◌^◌, ◌<◌, ◌≤◌, ℕ, List, length, min, get_or, set, sym, ap, ◌∙◌, subst}
use Rattle.crossbeam_channel.specs.Ends.{receives_on}
use Rattle.inboxes.specs.declared.views.MessageView.{MessageView}
use Rattle.inboxes.specs.declared.views.View.{View}
use Rattle.inboxes.specs.Counts.{AreCounts}
use Rattle.inboxes.specs.Ends.{WorkerPassView}
use Rattle.inboxes.specs.Places.{known, place_at, place_of}
use Rattle.inboxes.proofs.Counting.{counts_more}
use Rattle.inboxes.proofs.Seats.{hand_of}
use Rattle.inboxes.proofs.worker_pass.WorkerPass.take_from.Goals as goal

pub invariant_of-self-2 : goal.invariant_of-self-2
invariant_of-self-2 g c =
    let places = g.M.Channels.places in
    let place = place_at places c.self.inside.resolver in
    let proxies = g.N.Naming.cells.config.proxies in
    let ring = receives_on c.args.inbox.now in
    let got = (known c.self.inside.hand).got in
    let x = c.in_ok-message.message in
    let hand = c.take_one.new.hand in
    let before = c.self.inside.counts.items in
    let after = c.count_message.new.counts.items in
    let here : place_of ring ≡ place =
    c.requires.place ∙ ap (λ (t : WorkerPassView). place_at places t.resolver) (sym c.self.view_is) in
    let taken = c.in_ok-message.ensures.taken in
    let Counted : ℕ → Type 0 = λ p. (p < length before → after ≡ set before p (min (get_or before p 0 + 1) (2 ^ 64 - 1))) × (length before ≤ p → after ≡ before) in
    let one = subst Counted c.proxy.ensures (c.count_message.ensures.counted, c.count_message.ensures.other) in (
      hand_of place ring hand here c.in_ok-message.ensures.place,
      ap (λ (v : View). v.gets) taken,
      subst (λ (l : List MessageView). AreCounts proxies l after) (sym (ap (λ (v : View). v.got) taken)) (counts_more proxies got x before after c.self.invariant.2 one.0 one.1),
    )
