-- The chunks that stay, and the one that has the other moves and the new one.
use Rattle.std.proofs.Common.{◌≡◌, ◌∙◌, ap, ◌+◌, ◌++◌, ◌∷◌, [], List, take, drop, length, length-append, arith}
use Rattle.std.specs.Arc.{arc_value}
use Rattle.model.specs.declared.moves.Move.{Move}
use Rattle.request_builder.specs.Moves.{moves_in}
use Rattle.request_builder.proofs.MoveChunks.{pushed, last_ones}
use Rattle.request_builder.proofs.moves.Moves.push.Goals as goal

pub invariant_of-self-2 : goal.invariant_of-self-2
invariant_of-self-2 c =
    let chunks = c.self.inside.chunks.items in
    let kept = c.kept_chunks_and_room-kept.result.0 in
    let chunk = c.in_ok-chunk.chunk in
    let is : arc_value chunk ≡ moves_in (drop kept chunks) ++ c.args.one ∷ [] = c.in_ok-chunk.ensures.ok ∙ c.from.ensures ∙ c.in_ok-moves.ensures ∙ ap (λ cs. moves_in cs ++ c.args.one ∷ []) (last_ones c.deref-2.result.now kept ∙ ap (λ cs. drop kept cs) c.deref-2.ensures.value) in
    let grown : c.push_reserved.new.self.items ≡ take kept chunks ++ chunk ∷ [] = c.push_reserved.ensures.items ∙ ap (λ cs. cs ++ chunk ∷ []) (c.truncate.ensures.items ∙ ap (λ cs. take kept cs) c.reserve.ensures.items) in
    let all : moves_in c.push_reserved.new.self.items ≡ moves_in chunks ++ c.args.one ∷ [] = ap moves_in grown ∙ pushed chunks kept chunk c.args.one is in
    let many : length (moves_in c.push_reserved.new.self.items) ≡ length (moves_in chunks) + 1 = ap (λ (ms : List Move). length ms) all ∙ length-append (moves_in chunks) (c.args.one ∷ []) in
    omega (arith, many, c.self.invariant, c.in-Some.ensures)

pub returns-clause-ok : goal.returns-clause-ok
returns-clause-ok c =
    let chunks = c.self.inside.chunks.items in
    let kept = c.kept_chunks_and_room-kept.result.0 in
    let chunk = c.in_ok-chunk.chunk in
    let is : arc_value chunk ≡ moves_in (drop kept chunks) ++ c.args.one ∷ [] = c.in_ok-chunk.ensures.ok ∙ c.from.ensures ∙ c.in_ok-moves.ensures ∙ ap (λ cs. moves_in cs ++ c.args.one ∷ []) (last_ones c.deref-2.result.now kept ∙ ap (λ cs. drop kept cs) c.deref-2.ensures.value) in
    let grown : c.push_reserved.new.self.items ≡ take kept chunks ++ chunk ∷ [] = c.push_reserved.ensures.items ∙ ap (λ cs. cs ++ chunk ∷ []) (c.truncate.ensures.items ∙ ap (λ cs. take kept cs) c.reserve.ensures.items) in
    ap moves_in grown ∙ pushed chunks kept chunk c.args.one is ∙ ap (λ (ms : List Move). ms ++ c.args.one ∷ []) c.self.view_is
