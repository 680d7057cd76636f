-- The moves of the chunks so far are copied.
use Rattle.std.proofs.Common.{◌≡◌, ◌++◌, drop}
use Rattle.request_builder.specs.Moves.{moves_in}
use Rattle.request_builder.proofs.moves.join_chunks.Given as goal

abbrev pub invariant-loop-chunk : goal.invariant-loop-chunk
invariant-loop-chunk l = l.moves.items ++ moves_in (drop l.chunk-index l.chunks) ≡ moves_in l.chunks
