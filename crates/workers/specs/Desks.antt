-- What a resolver's worker keeps of the requests that it took. *Profile*: all of it.
use Rattle.std.specs.Prelude.{◌≡◌, ◌⊎◌, ℕ, ◌<◌, ◌≤◌, max, List, [], ◌∷◌, ◌++◌, length, slice_get}
use Rattle.std.specs.Prelude.{Option, None, Some, Bool, true, false, ◌||◌, IsFalse, IsTrue}
use Rattle.facts.specs.Stretches.{end_of, extended}
use Rattle.model.specs.Numbers.{ResolverNumber, RowNumber}
use Rattle.model.specs.Requests.{Request}
use Rattle.agreed_ledger.specs.Cells.{ColumnView, with_rows}
use Rattle.locked_resolvers.specs.Requests.{RequestView}
use Rattle.locked_resolvers.specs.Resolvers.{LockedResolverView, IsOfferRefusal}
use Rattle.locked_resolvers.specs.declared.refusal.Refusal.{Refusal}
use Rattle.locked_resolvers.specs.declared.refusal.Refusal.TheVariants as refusals

-- The verdict cells of the rows that the resolver judged, as far as the worker knows them; the
-- requests that it holds back; whether it is closed; and whether it was refused memory.
pub record DeskView : Type 0 where
  pub column : ColumnView
  pub held : List RequestView
  pub closed : Bool
  pub wanted : Bool

-- before any request
abbrev pub new_desk : ResolverNumber → DeskView
new_desk r =
    record {
      column = record { resolver = r; rows = record { first = 0; known = [] } };
      held = [];
      closed = false;
      wanted = false;
    }

-- the worker is closed, or was refused memory
abbrev pub has_failed : DeskView → Bool
has_failed v = v.closed || v.wanted

-- one of the requests is of the row
abbrev pub HasRow : List RequestView → RowNumber → Type 0
HasRow requests row =
    (place : ℕ) × (q : RequestView) × (slice_get requests place ≡ Some q) × (q.plain.row ≡ row)

-- the row was judged, or a request of the row is held back
abbrev pub Serves : DeskView → RowNumber → Type 0
Serves v row = (row < end_of v.column.rows) ⊎ HasRow v.held row

-- Whatever row was served is served afterwards, unless the worker has failed. A worker that is closed
-- or was refused memory stays so. The column stays its resolver's, from its first row.
pub record KeepsServing (before after : DeskView) : Type 0 where
  pub resolver : after.column.resolver ≡ before.column.resolver
  pub first : after.column.rows.first ≡ before.column.rows.first
  pub stays_closed : IsTrue before.closed → IsTrue after.closed
  pub stays_wanted : IsTrue before.wanted → IsTrue after.wanted
  pub failed : IsFalse (has_failed after) → IsFalse (has_failed before)
  pub served :
      IsFalse (has_failed after) → (row : RowNumber) → Serves before row → Serves after row

-- each request that is held back is of a row after the next one to be judged
abbrev pub IsNoneDue : DeskView → (next : RowNumber) → Type 0
IsNoneDue v next =
    (place : ℕ) (q : RequestView) → slice_get v.held place ≡ Some q → next < q.plain.row

-- the turn of the request at this place has come: it is not of a row after the next one to be judged
abbrev pub IsDueAt : DeskView → (next : RowNumber) → (place : ℕ) → Type 0
IsDueAt v next place =
    (q : RequestView) × (slice_get v.held place ≡ Some q) × (q.plain.row ≤ next)

-- the row after all that the worker's column has or the resolver has judged
abbrev pub next_row : DeskView → LockedResolverView → RowNumber
next_row v resolver = max (end_of v.column.rows) (length resolver.column)

-- no request is held back whose turn has come, unless the worker has failed
abbrev pub IsSettled : DeskView → Type 0
IsSettled v = IsFalse (has_failed v) → IsNoneDue v (end_of v.column.rows)

-- a closed worker holds nothing back
abbrev pub IsEmptyIfClosed : DeskView → Type 0
IsEmptyIfClosed v = IsTrue v.closed → v.held ≡ []

-- nothing changes, but that the worker may have failed
pub record OnlyFails (before after : DeskView) : Type 0 where
  pub column : after.column ≡ before.column
  pub held : after.held ≡ before.held
  pub stays_closed : IsTrue before.closed → IsTrue after.closed
  pub stays_wanted : IsTrue before.wanted → IsTrue after.wanted
  pub failed : IsFalse (has_failed after) → IsFalse (has_failed before)

-- the same worker, which was refused memory
abbrev pub wanting_memory : DeskView → DeskView
wanting_memory v = record v { wanted = true }

-- nothing changes, but that the worker may have been refused memory
abbrev pub OnlyWantsMemory : (before after : DeskView) → Type 0
OnlyWantsMemory before after = (after ≡ before) ⊎ (after ≡ wanting_memory before)

-- The request is held back after the others, and nobody is told anything of it; or nothing changes but
-- that memory was refused, and whoever asked is told so.
abbrev pub IsHeldOrTold : RequestView → (before after : DeskView) → Option (Option Refusal) → Type 0
IsHeldOrTold q before after None = after ≡ record before { held = before.held ++ q ∷ [] }
IsHeldOrTold q before after (Some told) =
    (after ≡ wanting_memory before) × (told ≡ Some refusals.OutOfMemory)

-- the worker's column, and then what the other has from its end on
abbrev pub caught_up : DeskView → (other : ColumnView) → DeskView
caught_up v other =
    record v { column = with_rows v.column (extended v.column.rows other.rows) }

-- the column has caught up with the other, or nothing changes but that memory was refused
abbrev pub HasCaughtUp : (other : ColumnView) → (before after : DeskView) → Type 0
HasCaughtUp other before after =
    (after ≡ caught_up before other) ⊎ (after ≡ wanting_memory before)

-- the column has every row that the resolver has judged, unless the worker has failed
abbrev pub HasReached : LockedResolverView → DeskView → Type 0
HasReached resolver v =
    IsFalse (has_failed v) → length resolver.column ≤ end_of v.column.rows

-- Nothing is held back any more. Otherwise nothing changes, but that the worker may have been refused
-- memory if something was held back.
pub record HasLetGo (before after : DeskView) : Type 0 where
  pub column : after.column ≡ before.column
  pub held : after.held ≡ []
  pub closed : after.closed ≡ before.closed
  pub stays_wanted : IsTrue before.wanted → IsTrue after.wanted
  pub failed : IsFalse (has_failed after) → IsFalse (has_failed before)
  pub same : before.held ≡ [] → after ≡ before

-- The refusal closes the worker: it is neither `OutOfMemory` nor the refusal of a repeat that was given up.
-- (Of a request to its resolver whose turn has come it is then Closed or CellTaken.)
abbrev pub IsClosing : Refusal → Type 0
IsClosing (refusals.GivenUp acknowledged) = ⊥
IsClosing refusals.OutOfMemory = ⊥
IsClosing refusal = Unit {0}

-- An offer leaves the worker closed only if it was closed before, or the resolver gave it a refusal that
-- closes it, and is closed too afterwards.
abbrev pub ClosesByCause :
    (before after : DeskView) → Request → (asked left : LockedResolverView) → Type 0
ClosesByCause before after q asked left =
    IsTrue after.closed
    → IsTrue before.closed
    ⊎ (IsTrue left.closed
    × ((refusal : Refusal) × IsClosing refusal × IsOfferRefusal asked q refusal))
