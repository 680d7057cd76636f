-- The view of a reader: some records, and columns of verdict cells. It is agreed up to a row if it
-- knows all records and cells up to that row. *Profile*: all of it.
use Rattle.std.specs.Prelude.{◌≡◌, ℕ, ◌<◌, ◌≤◌, List, length, take, slice_get, Some}
use Rattle.model.specs.Numbers.{ResolverNumber, RowNumber}
use Rattle.model.specs.Configs.{Config}
use Rattle.model.specs.declared.verdict.Verdict.{Verdict}
use Rattle.model.specs.declared.journal.JournalRow.{JournalRow}
use Rattle.model.specs.Records.{Record, IsHistory}
use Rattle.model.specs.Verdicts.{share_verdicts}
use Rattle.model.specs.Journal.{list_at, cell_verdicts, journal}

-- a column of verdict cells of one resolver: a cell for each row known, and in it the verdicts of
-- the resolver on its share
abbrev pub Column : Type 0
Column = List (List Verdict)

-- a column for each resolver
abbrev pub Columns : Type 0
Columns = List Column

-- the column has a cell for each of the first n rows
abbrev pub KnowsRows : Column → (n : ℕ) → Type 0
KnowsRows column n = n ≤ length column

-- Each cell holds the verdicts of resolver r on its share, for the rows of the history. `KnowsRows`
-- says that the cells are there.
abbrev pub IsVerdictColumn : Config → (h : List Record) → ResolverNumber → Column → Type 0
IsVerdictColumn config h r column =
    (i : RowNumber) (rec : Record) → slice_get h i ≡ Some rec
    → list_at column i ≡ share_verdicts config r (take i h) rec

-- The view is agreed up to row n: its records are a history of at least n rows, and the column of
-- each resolver has a cell for each of these rows.
pub record IsAgreed (config : Config) (records : List Record) (columns : Columns) (n : ℕ) :
    Type 0 where
  pub history : IsHistory config records
  pub rows : n ≤ length records
  pub cells : (r : ResolverNumber) → r < config.resolvers → KnowsRows (list_at columns r) n

-- the journal is made of the first n records of the view, by the verdicts in its columns
abbrev pub IsKnownJournal :
    Config → (records : List Record) (columns : Columns) (n : ℕ) → List JournalRow → Type 0
IsKnownJournal config records columns n rows =
    rows ≡ journal config (cell_verdicts config records columns) (take n records)

-- Each cell holds the verdicts of its resolver on its share, for the rows of the history.
-- `IsAgreed` says that the cells are there.
abbrev pub AreVerdicts : Config → (h : List Record) → Columns → Type 0
AreVerdicts config h columns =
    (r : ResolverNumber) → r < config.resolvers → IsVerdictColumn config h r (list_at columns r)
