-- The cells of a ledger by their names, and what is known of them. *Profile*: all of it.
use Rattle.std.specs.Prelude.{◌≡◌, ◌⊎◌, ℕ, ◌+◌, ◌<◌, ◌≤◌, List, length, map, slice_get, Option}
use Rattle.std.specs.Prelude.{None, Some, IsSome, IfSome}
use Rattle.once_cell.specs.Once.{Agrees, cell_name}
use Rattle.std.specs.declared.alloc.Global.{Global}
use Rattle.facts.specs.declared.fact.Fact.{Fact}
use Rattle.facts.specs.Stretches.{HasAt, Stretch, end_of}
use Rattle.model.specs.Numbers.{RowNumber, ResolverNumber}
use Rattle.model.specs.Configs.{Config, IsConfig}
use Rattle.model.specs.Journal.{list_at}
use Rattle.model.specs.declared.verdict.Verdict.{Verdict}

-- The names of a ledger's cells: of each row's record cell, and for each resolver of each row's
-- verdict cell; and the numbers of the cluster.
pub record Cells : Type 0 where
  pub records : List ℕ
  pub verdicts : List (List ℕ)
  pub config : Config

-- the most rows of a ledger
abbrev pub ledger_limit : ℕ
ledger_limit = 4096

-- The ledger has 1 to 4,096 rows, the numbers of its cluster are within their limits, and each
-- resolver has a cell for each row.
pub record IsLedger (cells : Cells) : Type 0 where
  pub rows : (1 ≤ length cells.records) × (length cells.records ≤ ledger_limit)
  pub config : IsConfig cells.config
  pub resolvers : length cells.verdicts ≡ cells.config.resolvers
  pub columns :
      (r : ResolverNumber) (column : List ℕ) → slice_get cells.verdicts r ≡ Some column
      → length column ≡ length cells.records

-- the names of a resolver's verdict cells; none if there is no such resolver
abbrev pub verdict_cells : Cells → ResolverNumber → List ℕ
verdict_cells cells r = list_at cells.verdicts r

-- each resolver has a verdict cell for each row
abbrev pub AllHaveRows : Cells → Type 0
AllHaveRows cells =
    (r : ResolverNumber) → r < cells.config.resolvers
    → length (verdict_cells cells r) ≡ length cells.records

-- the ledger has the row, and a resolver of this number
abbrev pub HasVerdictCell : Cells → RowNumber → ResolverNumber → Type 0
HasVerdictCell cells row r = (row < length cells.records) × (r < cells.config.resolvers)

-- the ledger lacks the row, or a resolver of this number
abbrev pub LacksVerdictCell : Cells → RowNumber → ResolverNumber → Type 0
LacksVerdictCell cells row r = (length cells.records ≤ row) ⊎ (cells.config.resolvers ≤ r)

-- the names of the cells in a row
abbrev pub names : List (Global × ℕ) → List ℕ
names cells = map cell_name cells

-- each fact of the stretch is about the cell of its row
abbrev pub AreAbout : {T : Type 0} → (cells : List ℕ) → Stretch (Fact T) → Type 0
AreAbout cells s =
    (i : ℕ) (fact : Fact _) → slice_get s.known i ≡ Some fact
    → slice_get cells (s.first + i) ≡ Some fact.cell

-- if the stretch has a row, its last one is among the first `rows`
abbrev pub IsWithin : {X : Type 0} → (rows : ℕ) → Stretch X → Type 0
IsWithin rows s = 0 < length s.known → end_of s ≤ rows

-- a row, and what a note knows of the value in its cell, if anything
pub record NoteView (X : Type 0) : Type 0 where
  pub row : RowNumber
  pub known : Option X

-- a note of the row that knows nothing
abbrev pub new_note : {X : Type 0} → RowNumber → NoteView X
new_note row = record { row = row; known = None }

-- A look at the row shows nothing: the note is unchanged, and if it is of the row, it knew nothing.
abbrev pub ShowsNothing : {X : Type 0} → RowNumber → (before after : NoteView X) → Type 0
ShowsNothing row before after = (after ≡ before) × (row ≡ before.row → before.known ≡ None)

-- A look at the row shows this: the note is of the row, knows it now, and knew nothing else before.
abbrev pub Shows : {X : Type 0} → RowNumber → (before after : NoteView X) → X → Type 0
Shows row before after x =
    (row ≡ before.row) × (after.known ≡ Some x) × Agrees before.known x

-- if both notes are of one row, and know something, they know the same
abbrev pub NotesAgree : {X : Type 0} → (note other : NoteView X) → Type 0
NotesAgree note other = note.row ≡ other.row → IfSome other.known (Agrees note.known)

-- if the note knows something, and the stretch has its row, they know the same
abbrev pub NoteAgreesWith : {X : Type 0} → NoteView X → Stretch X → Type 0
NoteAgreesWith note s = (x : _) → HasAt s note.row x → Agrees note.known x

-- the note is of the row, and knows what its cell holds
abbrev pub IsKnownAt : {X : Type 0} → RowNumber → NoteView X → Type 0
IsKnownAt row note = (note.row ≡ row) × IsSome note.known

-- a row and a resolver, and what a note knows of the verdicts, if anything
pub record NotedVerdicts : Type 0 where
  pub row : RowNumber
  pub resolver : ResolverNumber
  pub known : Option (List Verdict)

-- what the note knows of the row, without the resolver
abbrev pub row_note : NotedVerdicts → NoteView (List Verdict)
row_note note = record { row = note.row; known = note.known }

-- a note of the row and the resolver that knows nothing
abbrev pub new_verdict_note : RowNumber → ResolverNumber → NotedVerdicts
new_verdict_note row r = record { row = row; resolver = r; known = None }

-- A look at a resolver's verdicts in the row shows nothing: the note is unchanged, and if it is of
-- the row and the resolver, it knew nothing.
abbrev pub ShowsNoVerdicts :
    RowNumber → ResolverNumber → (before after : NotedVerdicts) → Type 0
ShowsNoVerdicts row r before after =
    (after ≡ before) × (row ≡ before.row → r ≡ before.resolver → before.known ≡ None)

-- A look at a resolver's verdicts in the row shows these: the note is of the row and the resolver,
-- knows them now, and knew no others before.
abbrev pub ShowsVerdicts :
    RowNumber → ResolverNumber → (before after : NotedVerdicts) → List Verdict → Type 0
ShowsVerdicts row r before after verdicts =
    (row ≡ before.row) × (r ≡ before.resolver) × (after.known ≡ Some verdicts)
    × Agrees before.known verdicts

-- the note is of the row and the resolver, and knows what their cell holds
abbrev pub AreKnownAt : RowNumber → ResolverNumber → NotedVerdicts → Type 0
AreKnownAt row r note = (note.row ≡ row) × (note.resolver ≡ r) × IsSome note.known

-- the known verdicts of a resolver, one list for each row of a stretch
pub record ColumnView : Type 0 where
  pub resolver : ResolverNumber
  pub rows : Stretch (List Verdict)

-- a column of the same resolver, with these rows
abbrev pub with_rows : ColumnView → Stretch (List Verdict) → ColumnView
with_rows column rows = record { resolver = column.resolver; rows = rows }
