-- The first proxies have their sides, and there are rows and room for the others.
use Rattle.std.proofs.Common.{◌≡◌, ◌+◌, ◌≤◌, length, drop}
use Rattle.std.specs.Vec.{vec_capacity}
use Rattle.std.specs.Vec.Iter.{into_iter_items, into_iter_len}
use Rattle.inboxes.specs.Blanks.{AreSides}
use Rattle.inboxes.proofs.blank_inboxes.name_senders.Given as goal

abbrev pub invariant-loop-row : goal.invariant-loop-row
invariant-loop-row g l =
    let config = g.N.Naming.cells.config in
    let done = length l.sides.items in
    let waiting = into_iter_items l.row-iterator in record {
      sides : AreSides done config.resolvers l.sides.items;
      left : waiting ≡ drop done l.fn.rows.items;
      rooms : length l.rooms.items ≡ length waiting;
      all : done + length waiting ≡ config.proxies;
      room : config.proxies ≤ vec_capacity l.sides;
      count : into_iter_len l.row-iterator ≡ length waiting;
    }
