-- Statements of those who hold the same records and verdicts: columns of cells, and sources of
-- verdicts.
use Rattle.std.specs.Prelude.{◌≡◌, ◌<◌, ◌≤◌, ◌++◌, ℕ, List, [], ◌∷◌, length, map, take, slice_get}
use Rattle.std.specs.Prelude.{Some, IsTrue}
use Rattle.model.specs.Configs.{Config}
use Rattle.model.specs.declared.verdict.Verdict.{Verdict}
use Rattle.model.specs.declared.journal.JournalRow.{JournalRow}
use Rattle.model.specs.Records.{Record, IsHistory}
use Rattle.model.specs.Verdicts.{share_verdicts}
use Rattle.model.specs.Journal.{history_verdicts, list_at, cell_verdicts, journal, VerdictSource}
use Rattle.model.specs.Journal.{AgreeOn, CellCommits, journal_row, reply_row, unseen}
use Rattle.model.specs.Outcomes.{outcomes, outcomes_after}
use Rattle.model.specs.World.{finished_batch, finished_after, reply_of}
use Rattle.model.specs.Agreed.{Column, Columns, IsAgreed, IsVerdictColumn, IsKnownJournal}
use Rattle.model.specs.Agreed.{AreVerdicts}
use Rattle.model.specs.declared.verdict.Verdict.TheVariants.{Committed}
use Rattle.model.specs.Transactions.{StampedTransaction}
use Rattle.model.specs.Shares.{asks, share}
use Rattle.model.specs.Finishing.{Replies, AreRepliesBy, replied_verdicts}
use Rattle.model.specs.ColumnVerdicts.{column_verdicts, reply_by_column, replies_by_columns}
use Rattle.model.specs.ColumnVerdicts.{AreRepliesByColumns}

-- an empty view is agreed up to row 0
abbrev pub EmptyViewsAreAgreed : Type 0
EmptyViewsAreAgreed = (config : Config) (columns : Columns) → IsAgreed config [] columns 0

-- a holder that is agreed up to a row is agreed up to each earlier row
abbrev pub AgreedUpToEarlierRows : Type 0
AgreedUpToEarlierRows =
    (config : Config) (records : List Record) (columns : Columns) (earlier row : ℕ)
    → earlier ≤ row → IsAgreed config records columns row → IsAgreed config records columns earlier

-- a holder has the record of each row before the one that it is agreed up to
abbrev pub AgreedRowsHaveRecords : Type 0
AgreedRowsHaveRecords =
    (config : Config) (records : List Record) (columns : Columns) (bound row : ℕ)
    → IsAgreed config records columns bound → row < bound
    → (rec : Record) × (slice_get records row ≡ Some rec)

-- and it has each resolver's cell of that row
abbrev pub AgreedRowsHaveCells : Type 0
AgreedRowsHaveCells =
    (config : Config) (records : List Record) (columns : Columns) (bound row resolver : ℕ)
    → IsAgreed config records columns bound → row < bound → resolver < config.resolvers
    → (cell : List Verdict) × (slice_get (list_at columns resolver) row ≡ Some cell)

-- the journal that a holder knows has exactly the rows that the holder is agreed up to
abbrev pub KnownJournalsHaveTheAgreedRows : Type 0
KnownJournalsHaveTheAgreedRows =
    (config : Config) (records : List Record) (columns : Columns) (bound : ℕ)
    (rows : List JournalRow)
    → IsAgreed config records columns bound → IsKnownJournal config records columns bound rows
    → length rows ≡ bound

-- it is the journal of these records' history if the cells have the verdicts
abbrev pub KnownJournalsAreOfTheHistory : Type 0
KnownJournalsAreOfTheHistory =
    (config : Config) (records : List Record) (columns : Columns) (bound : ℕ)
    (rows : List JournalRow)
    → IsAgreed config records columns bound → IsKnownJournal config records columns bound rows
    → AreVerdicts config (take bound records) columns
    → rows ≡ journal config (history_verdicts config (take bound records)) (take bound records)

-- any columns have the verdicts of no records
abbrev pub NoRecordsNeedNoVerdicts : Type 0
NoRecordsNeedNoVerdicts = (config : Config) (columns : Columns) → AreVerdicts config [] columns

-- a column with a cell for each row, and then the verdicts of its resolver on the share of one
-- record more, is the column of all these records
abbrev pub VerdictColumnsGrow : Type 0
VerdictColumnsGrow =
    (config : Config) (history : List Record) (rec : Record) (resolver : ℕ) (column : Column)
    → IsVerdictColumn config history resolver column → length column ≡ length history
    → IsVerdictColumn config (history ++ rec ∷ []) resolver
    (column ++ share_verdicts config resolver history rec ∷ [])

-- a verdict column of some records is one of the first of them
abbrev pub VerdictColumnsOfFirstRecords : Type 0
VerdictColumnsOfFirstRecords =
    (config : Config) (history : List Record) (resolver count : ℕ) (column : Column)
    → IsVerdictColumn config history resolver column
    → IsVerdictColumn config (take count history) resolver column

-- two lists of columns have the same cells of the first rows, for every resolver of the cluster
abbrev pub HaveSameCells : Config → Columns → Columns → ℕ → Type 0
HaveSameCells config mine theirs count =
    (resolver row : ℕ) → resolver < config.resolvers → row < count
    → list_at (list_at mine resolver) row ≡ list_at (list_at theirs resolver) row

-- columns that are cut down to the resolvers of the cluster and to the first rows have the same
-- cells of these rows
abbrev pub ColumnsCutDownHaveSameCells : Type 0
ColumnsCutDownHaveSameCells =
    (config : Config) (columns : Columns) (count : ℕ)
    → HaveSameCells config columns
    (map (λ (column : Column). take count column) (take config.resolvers columns)) count

-- and both compute the same finished batch of each of these rows
abbrev pub FinishedBatchesOfTwoHoldersMeet : Type 0
FinishedBatchesOfTwoHoldersMeet =
    (config : Config) (my_records their_records : List Record) (mine theirs : Columns)
    (common row : ℕ) (rec : Record)
    → IsHistory config my_records → row < common
    → take common my_records ≡ take common their_records
    → HaveSameCells config mine theirs common → slice_get my_records row ≡ Some rec
    → finished_batch config (cell_verdicts config my_records mine) (take row my_records) rec
    ≡ finished_batch config (cell_verdicts config their_records theirs) (take row their_records) rec

-- if a cell has the verdicts of its resolver on its share, what the cells say of each transaction
-- that asks the resolver is the history's verdict
abbrev pub CellsSayTheHistorysVerdicts : Type 0
CellsSayTheHistorysVerdicts =
    (config : Config) (history : List Record) (columns : Columns) (resolver row number : ℕ)
    (rec : Record) (transaction : StampedTransaction)
    → slice_get history row ≡ Some rec → slice_get rec.batch number ≡ Some transaction
    → IsTrue (asks config rec resolver transaction)
    → list_at (list_at columns resolver) row
    ≡ share_verdicts config resolver (take row history) rec
    → cell_verdicts config history columns resolver row number
    ≡ history_verdicts config history resolver row number

-- they give it the same journal row
abbrev pub AgreeingSourcesGiveOneJournalRow : Type 0
AgreeingSourcesGiveOneJournalRow =
    (config : Config) (verdict_by other : VerdictSource) (rec : Record)
    → AgreeOn config verdict_by other rec
    → journal_row config verdict_by rec ≡ journal_row config other rec

-- a transaction that the cells say is Committed asks its resolver, and the cell has that verdict at
-- the place of its part
abbrev pub CommittedByCellsIsInTheCell : Type 0
CommittedByCellsIsInTheCell =
    (config : Config) (history : List Record) (columns : Columns) (resolver row number : ℕ)
    → cell_verdicts config history columns resolver row number ≡ Committed
    → (rec : Record) × (slice_get history row ≡ Some rec)
    × CellCommits config rec resolver number (list_at (list_at columns resolver) row)

-- and what a cell has as Committed, the cells say
abbrev pub CommittedInTheCellIsSaid : Type 0
CommittedInTheCellIsSaid =
    (config : Config) (history : List Record) (columns : Columns) (resolver row number : ℕ)
    (rec : Record)
    → slice_get history row ≡ Some rec
    → CellCommits config rec resolver number (list_at (list_at columns resolver) row)
    → cell_verdicts config history columns resolver row number ≡ Committed

-- a transaction that a history says is Committed is in the history
abbrev pub CommittedByAHistoryIsInIt : Type 0
CommittedByAHistoryIsInIt =
    (config : Config) (history : List Record) (resolver row number : ℕ)
    → history_verdicts config history resolver row number ≡ Committed
    → (rec : Record) × (transaction : StampedTransaction)
    × (slice_get history row ≡ Some rec) × (slice_get rec.batch number ≡ Some transaction)

-- they give it the same outcomes, after any journal before
abbrev pub AgreeingSourcesGiveTheSameOutcomes : Type 0
AgreeingSourcesGiveTheSameOutcomes =
    (config : Config) (verdict_by other : VerdictSource) (journal_before : List JournalRow)
    (rec : Record)
    → AgreeOn config verdict_by other rec
    → outcomes_after config verdict_by journal_before rec
    ≡ outcomes_after config other journal_before rec

-- they give it the same finished batch, after any journal before
abbrev pub AgreeingSourcesGiveOneFinishedBatch : Type 0
AgreeingSourcesGiveOneFinishedBatch =
    (config : Config) (verdict_by other : VerdictSource) (journal_before : List JournalRow)
    (rec : Record)
    → AgreeOn config verdict_by other rec
    → finished_after config verdict_by journal_before rec
    ≡ finished_after config other journal_before rec

-- the resolver has the same verdict on each transaction of the record that asks it
abbrev pub AgreeOnAskers : Config → VerdictSource → VerdictSource → ℕ → Record → Type 0
AgreeOnAskers config verdict_by other resolver rec =
    (number : ℕ) (transaction : StampedTransaction) → slice_get rec.batch number ≡ Some transaction
    → IsTrue (asks config rec resolver transaction)
    → verdict_by resolver rec.row number ≡ other resolver rec.row number

-- the resolver replies the same row of that record
abbrev pub AgreeingSourcesGiveOneReplyRow : Type 0
AgreeingSourcesGiveOneReplyRow =
    (config : Config) (verdict_by other : VerdictSource) (resolver : ℕ) (rec : Record)
    → AgreeOnAskers config verdict_by other resolver rec
    → reply_row verdict_by resolver rec ≡ reply_row other resolver rec

-- and so the same rows that a proxy has not seen, if they agree on each record before
abbrev pub AgreeingSourcesGiveTheSameUnseenRows : Type 0
AgreeingSourcesGiveTheSameUnseenRows =
    (config : Config) (verdict_by other : VerdictSource) (resolver : ℕ) (before : List Record)
    (rec : Record)
    → ((place : ℕ) (earlier : Record) → slice_get before place ≡ Some earlier
    → AgreeOnAskers config verdict_by other resolver earlier)
    → unseen verdict_by resolver before rec ≡ unseen other resolver before rec

-- if the cells of the first rows have the verdicts, the journal computed from the cells equals that
-- of the history of these rows
abbrev pub CellsGiveTheJournal : Type 0
CellsGiveTheJournal =
    (config : Config) (history : List Record) (columns : Columns) (count : ℕ)
    → IsHistory config history → AreVerdicts config (take count history) columns
    → journal config (cell_verdicts config history columns) (take count history)
    ≡ journal config (history_verdicts config (take count history)) (take count history)

-- and so do the outcomes of each of these rows
abbrev pub CellsGiveTheOutcomes : Type 0
CellsGiveTheOutcomes =
    (config : Config) (history : List Record) (columns : Columns) (count row : ℕ) (rec : Record)
    → IsHistory config history → AreVerdicts config (take count history) columns
    → slice_get (take count history) row ≡ Some rec
    → outcomes config (cell_verdicts config history columns) (take row history) rec
    ≡ outcomes config (history_verdicts config (take count history)) (take row history) rec

-- and the finished batch of each of these rows
abbrev pub CellsGiveTheFinishedBatch : Type 0
CellsGiveTheFinishedBatch =
    (config : Config) (history : List Record) (columns : Columns) (count row : ℕ) (rec : Record)
    → IsHistory config history → AreVerdicts config (take count history) columns
    → slice_get (take count history) row ≡ Some rec
    → finished_batch config (cell_verdicts config history columns) (take row history) rec
    ≡ finished_batch config (history_verdicts config (take count history)) (take row history) rec

-- of two holders that have the same records and cells of the first rows, the one with more rows has
-- a journal that begins with the other's
abbrev pub JournalsOfTwoHoldersMeet : Type 0
JournalsOfTwoHoldersMeet =
    (config : Config) (my_records their_records : List Record) (mine theirs : Columns)
    (common count : ℕ)
    → IsHistory config my_records → common ≤ count
    → take common my_records ≡ take common their_records
    → HaveSameCells config mine theirs common
    → take common (journal config (cell_verdicts config my_records mine) (take count my_records))
    ≡ journal config (cell_verdicts config their_records theirs) (take common their_records)

-- the verdicts of a resolver by the cells are those by its own column
abbrev pub CellsSayWhatTheirColumnSays : Type 0
CellsSayWhatTheirColumnSays =
    (config : Config) (history : List Record) (columns : Columns) (resolver row number : ℕ)
    → cell_verdicts config history columns resolver row number
    ≡ column_verdicts config history (list_at columns resolver) resolver row number

-- if a cell of a column has the verdicts of its resolver on its share, the column says the
-- history's verdict of each transaction that asks the resolver
abbrev pub ColumnsSayTheHistorysVerdicts : Type 0
ColumnsSayTheHistorysVerdicts =
    (config : Config) (history : List Record) (column : Column) (resolver row number : ℕ)
    (rec : Record) (transaction : StampedTransaction)
    → slice_get history row ≡ Some rec → slice_get rec.batch number ≡ Some transaction
    → IsTrue (asks config rec resolver transaction)
    → list_at column row ≡ share_verdicts config resolver (take row history) rec
    → column_verdicts config history column resolver row number
    ≡ history_verdicts config history resolver row number

-- replies by a source of verdicts say of their record what the source says
abbrev pub RepliesSayWhatTheirSourceSays : Type 0
RepliesSayWhatTheirSourceSays =
    (config : Config) (verdict_by : VerdictSource) (before : List Record) (rec : Record)
    (replies : Replies)
    → AreRepliesBy config verdict_by before rec replies
    → AgreeOn config (replied_verdicts config rec replies) verdict_by rec

-- whatever the columns are, there are replies by them
abbrev pub ColumnsGiveReplies : Type 0
ColumnsGiveReplies =
    (config : Config) (history : List Record) (columns : Columns) (rec : Record)
    → AreRepliesByColumns config history columns rec
    (replies_by_columns config history columns rec)

-- replies by the columns are replies by the cells, if each cell of the record has a verdict for
-- each part of the share
abbrev pub RepliesByColumnsAreByTheCells : Type 0
RepliesByColumnsAreByTheCells =
    (config : Config) (history : List Record) (columns : Columns) (rec : Record)
    (replies : Replies)
    → slice_get history rec.row ≡ Some rec
    → ((resolver : ℕ) → resolver < config.resolvers
    → length (list_at (list_at columns resolver) rec.row) ≡ length (share config rec resolver))
    → AreRepliesByColumns config history columns rec replies
    → AreRepliesBy config (cell_verdicts config history columns) (take rec.row history) rec replies

-- the reply by a column that has the verdicts of its resolver is the reply to the record
abbrev pub RepliesByVerdictColumnsAreToTheRecord : Type 0
RepliesByVerdictColumnsAreToTheRecord =
    (config : Config) (history : List Record) (column : Column) (resolver : ℕ) (rec : Record)
    → IsHistory config history → slice_get history rec.row ≡ Some rec
    → IsVerdictColumn config history resolver column
    → reply_by_column config history column resolver rec
    ≡ reply_of config (history_verdicts config history) resolver (take rec.row history) rec
