-- The owners do not differ if they are those noted.
use Rattle.std.proofs.Common.{◌∙◌, sym}
use Rattle.dated_owners.proofs.LaterOwnerLaws.{same_equal}
use Rattle.dated_owners.proofs.pieces.note_if_different.Goals as goal

pub returns-then-are_same_owners-clause-joined : goal.returns-then-are_same_owners-clause-joined
returns-then-are_same_owners-clause-joined c = λ _.
    (c.if-is_noted.true, same_equal c.args.owners.now c.as_slice.result.now (sym c.are_same_owners.ensures ∙ c.if-are_same_owners.true) ∙ c.as_slice.ensures)

pub returns-then-are_same_owners-clause-noted : goal.returns-then-are_same_owners-clause-noted
returns-then-are_same_owners-clause-noted c = λ _.
    sym (same_equal c.args.owners.now c.as_slice.result.now (sym c.are_same_owners.ensures ∙ c.if-are_same_owners.true) ∙ c.as_slice.ensures)
