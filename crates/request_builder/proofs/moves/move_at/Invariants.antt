-- The place is that many moves behind the chunks so far.
use Rattle.std.proofs.Common.{◌≡◌, ◌+◌, drop, length}
use Rattle.std.specs.Prelude.{slice_get}
use Rattle.request_builder.specs.Moves.{moves_in}
use Rattle.request_builder.proofs.moves.move_at.Given as goal

abbrev pub invariant-loop-chunk : goal.invariant-loop-chunk
invariant-loop-chunk l = record {
  found : slice_get (moves_in l.chunks) l.place ≡ slice_get (moves_in (drop l.chunk-index l.chunks)) l.left;
  behind : l.left + length (moves_in l.chunks) ≡ l.place + length (moves_in (drop l.chunk-index l.chunks));
}
