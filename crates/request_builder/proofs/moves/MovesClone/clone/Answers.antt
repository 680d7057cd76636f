-- A copy has the same chunks.
use Rattle.std.proofs.Common.{sym, ap, ◌∙◌, length, List}
use Rattle.model.specs.declared.moves.Move.{Move}
use Rattle.request_builder.proofs.MoveChunks.{shared}
use Rattle.request_builder.proofs.moves.MovesClone.clone.Goals as goal

pub invariant_of-result : goal.invariant_of-result
invariant_of-result c =
    c.self.invariant ∙ ap (λ (moves : List Move). length moves) (sym (shared c.self.inside.chunks.items c.in_ok-clone.field-0.items c.in_ok-clone.ensures.cases.0))

pub returns : goal.returns
returns c = record { cases = shared c.self.inside.chunks.items c.in_ok-clone.field-0.items c.in_ok-clone.ensures.cases.0 ∙ c.self.view_is }
