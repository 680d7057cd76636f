-- The place is in this chunk, or that many moves behind it.
use Rattle.std.proofs.Common.{◌≡◌, ◌∙◌, refl, ap, ◌+◌, ◌-◌, ◌++◌, List, drop, length, length-append, arith}
use Rattle.std.specs.Prelude.{slice_get}
use Rattle.std.proofs.lemmas.Option.{slice_get_read}
use Rattle.model.specs.declared.moves.Move.{Move}
use Rattle.request_builder.specs.Moves.{moves_in}
use Rattle.request_builder.proofs.MoveChunks.{chunk_first, get_front, get_behind}
use Rattle.request_builder.proofs.moves.move_at.Goals as goal

pub returns-then-left-moves : goal.returns-then-left-moves
returns-then-left-moves c =
    let chunks = c.args.chunks.now in
    let i = c.loop-chunk.chunk-index in
    let left = c.loop-chunk.left in
    let moves = c.as_slice-moves.result.now in
    let later = moves_in (drop (i + 1) chunks) in
    let first : moves_in (drop i chunks) ≡ moves ++ later = chunk_first chunks i (i + 1) c.chunk-item.result moves (omega arith) (omega (arith, c.loop-chunk-test.true)) c.chunk-item.is (c.as_slice-moves.ensures ∙ c.deref.ensures) in
    c.loop-chunk.invariant.found
    ∙ ap (λ (ms : List Move). slice_get ms left) first
    ∙ get_front moves later left (omega (arith, c.if-left-moves.true))
    ∙ slice_get_read moves (length moves) left c.index-moves-left.result refl (omega (arith, c.if-left-moves.true)) c.index-moves-left.is

pub loop-chunk-preserved : goal.loop-chunk-preserved
loop-chunk-preserved c =
    let chunks = c.args.chunks.now in
    let i = c.loop-chunk.chunk-index in
    let left = c.loop-chunk.left in
    let moves = c.as_slice-moves.result.now in
    let later = moves_in (drop (i + 1) chunks) in
    let first : moves_in (drop i chunks) ≡ moves ++ later = chunk_first chunks i (i + 1) c.chunk-item.result moves (omega arith) (omega (arith, c.loop-chunk-test.true)) c.chunk-item.is (c.as_slice-moves.ensures ∙ c.deref.ensures) in
    let many : length (moves_in (drop i chunks)) ≡ length moves + length later = ap (λ (ms : List Move). length ms) first ∙ length-append moves later in
    record {
      found =
          c.loop-chunk.invariant.found
          ∙ ap (λ (ms : List Move). slice_get ms left) first
          ∙ get_behind moves later left (left - length moves) (omega (arith, c.if-left-moves.false));
      behind = omega (arith, many, c.loop-chunk.invariant.behind, c.if-left-moves.false);
    }
