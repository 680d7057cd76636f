-- Those so far, and those of the entries that are left, are those of the range.
use Rattle.std.proofs.Common.{◌≡◌, ◌++◌, ◌∷◌, []}
use Rattle.dated_owners.specs.Starts.{changed_in, with_values}
use Rattle.dated_owners.proofs.pieces.copies_with_owner.Given as goal

abbrev pub invariant-loop-key : goal.invariant-loop-key
invariant-loop-key l =
    l.grown.items ++ with_values (λ later. later ++ l.owner ∷ []) l.key-iterator
    ≡ changed_in (record { begin = l.begin; end = l.end }) (λ later. later ++ l.owner ∷ []) l.pieces.entries
