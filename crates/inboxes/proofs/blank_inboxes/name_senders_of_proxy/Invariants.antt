-- The proxy has its ends to the first resolvers, and there are ends and room for the others.
use Rattle.std.proofs.Common.{◌≡◌, ◌+◌, ◌≤◌, length, drop, map}
use Rattle.std.specs.Prelude.{All}
use Rattle.std.specs.Vec.{vec_capacity}
use Rattle.std.specs.Vec.Iter.{into_iter_items, into_iter_len}
use Rattle.inboxes.specs.Blanks.{BlankSenderView}
use Rattle.inboxes.specs.Ends.{IsEach, fresh_sender}
use Rattle.inboxes.proofs.blank_inboxes.name_senders_of_proxy.Given as goal

abbrev pub invariant-loop-sender : goal.invariant-loop-sender
invariant-loop-sender g l =
    let config = g.N.Naming.cells.config in
    let done = length l.ends.items in
    let waiting = into_iter_items l.sender-iterator in record {
      ends : IsEach (fresh_sender l.proxy) done l.ends.items;
      left : map (λ (s : BlankSenderView). s.place) waiting ≡ drop done g.M.Channels.places;
      mine : All (λ (s : BlankSenderView). s.proxy ≡ l.proxy) waiting;
      all : done + length waiting ≡ config.resolvers;
      room : config.resolvers ≤ vec_capacity l.ends;
      count : into_iter_len l.sender-iterator ≡ length waiting;
    }
