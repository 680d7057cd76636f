-- Mutations whose tags are made before their changes are taken out of the record (this project's
-- profile).
use Rattle.std.specs.Prelude.{List, [], ◌∷◌, ◌++◌}
use Rattle.system_keys.specs.declared.change.Change.{Change}
use Rattle.system_keys.specs.declared.change.Change.TheVariants.{Set}
use Rattle.model.specs.declared.outcome.Outcome.{Outcome}
use Rattle.model.specs.declared.outcome.Outcome.TheVariants.{Committed, Conflict, TooOld, Locked}
use Rattle.model.specs.declared.outcome.Tagged.{Tagged}
use Rattle.model.specs.Transactions.{StampedTransaction}

-- what stands in the place of a change until it is put in
abbrev pub placeholder_change : Change
placeholder_change = Set [] []

-- the mutation before its change is put in
abbrev pub without_change : Tagged → Tagged
without_change mutation = record mutation { change = placeholder_change }

-- the mutations with these changes put in, from the first on
abbrev pub with_changes : List Tagged → List Change → List Tagged
with_changes [] changes = []
with_changes (mutation ∷ mutations) [] = mutation ∷ mutations
with_changes (mutation ∷ mutations) (change ∷ changes) =
    record mutation { change = change } ∷ with_changes mutations changes

-- the changes of a transaction, if it is committed
abbrev pub changes_if_committed : StampedTransaction → Outcome → List Change
changes_if_committed t (Committed version number) = t.changes
changes_if_committed t Conflict = []
changes_if_committed t TooOld = []
changes_if_committed t Locked = []

-- the changes of the committed transactions of a batch with these outcomes
abbrev pub changes_of : List StampedTransaction → List Outcome → List Change
changes_of [] outcomes = []
changes_of (t ∷ ts) [] = []
changes_of (t ∷ ts) (outcome ∷ outcomes) = changes_if_committed t outcome ++ changes_of ts outcomes
