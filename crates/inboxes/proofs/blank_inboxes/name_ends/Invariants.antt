-- The first ends have their names, and there are ends and room for the others.
use Rattle.std.proofs.Common.{◌≡◌, ◌+◌, ◌≤◌, ℕ, length, drop}
use Rattle.std.specs.Vec.{vec_capacity}
use Rattle.std.specs.Vec.Iter.{into_iter_items, into_iter_len}
use Rattle.inboxes.specs.Ends.{IsEach}
use Rattle.inboxes.proofs.blank_inboxes.name_ends.Given as goal

abbrev pub invariant-loop-end : goal.invariant-loop-end
invariant-loop-end g l =
    let places = g.M.Channels.places in
    let done = length l.ends.items in
    let waiting = into_iter_items l.end-iterator in record {
      ends : IsEach (λ (resolver : ℕ). resolver) done l.ends.items;
      left : waiting ≡ drop done places;
      all : done + length waiting ≡ length places;
      room : length places ≤ vec_capacity l.ends;
      count : into_iter_len l.end-iterator ≡ length waiting;
    }
