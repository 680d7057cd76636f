-- Statements of the journal, and of its rows as resolvers reply them.
use Rattle.std.specs.Prelude.{◌≡◌, ◌<◌, ◌++◌, ℕ, List, [], ◌∷◌, map, filter, take, nat_le, length}
use Rattle.std.specs.Prelude.{slice_get, Some, Contains}
use Rattle.model.specs.Configs.{Config}
use Rattle.model.specs.declared.journal.JournalRow.{JournalRow}
use Rattle.model.specs.Records.{Record}
use Rattle.model.specs.Journal.{VerdictSource, journal_row, journal, reply_row, reply_row_of}
use Rattle.model.specs.Journal.{HaveVerdictCount, is_after, unseen}
use Rattle.model.specs.World.{up_to_version}

-- the journal of more records begins with the journal of the first ones
abbrev pub JournalsContinue : Type 0
JournalsContinue =
    (config : Config) (verdict_by : VerdictSource) (records later : List Record)
    → journal config verdict_by (records ++ later)
    ≡ journal config verdict_by records ++ journal config verdict_by later

-- with one record more, the journal has that record's row more
abbrev pub JournalsGrowByARow : Type 0
JournalsGrowByARow =
    (config : Config) (verdict_by : VerdictSource) (records : List Record) (rec : Record)
    → journal config verdict_by (records ++ rec ∷ [])
    ≡ journal config verdict_by records ++ journal_row config verdict_by rec ∷ []

-- the first rows of a journal are the journal of the first records
abbrev pub FirstRowsOfAJournal : Type 0
FirstRowsOfAJournal =
    (config : Config) (verdict_by : VerdictSource) (records : List Record) (count : ℕ)
    → take count (journal config verdict_by records)
    ≡ journal config verdict_by (take count records)

-- a journal is as long as the list of its records
abbrev pub JournalsAreAsLongAsTheirRecords : Type 0
JournalsAreAsLongAsTheirRecords =
    (config : Config) (verdict_by : VerdictSource) (records : List Record)
    → length (journal config verdict_by records) ≡ length records

-- each record has its journal row at its own place
abbrev pub RecordsHaveTheirJournalRows : Type 0
RecordsHaveTheirJournalRows =
    (config : Config) (verdict_by : VerdictSource) (records : List Record) (place : ℕ)
    (rec : Record)
    → slice_get records place ≡ Some rec
    → slice_get (journal config verdict_by records) place ≡ Some (journal_row config verdict_by rec)

-- each row of a journal belongs to the record at its place, and has the record's version
abbrev pub JournalRowsAreOfTheirRecords : Type 0
JournalRowsAreOfTheirRecords =
    (config : Config) (verdict_by : VerdictSource) (records : List Record) (place : ℕ)
    (row : JournalRow)
    → slice_get (journal config verdict_by records) place ≡ Some row
    → (rec : Record) × (slice_get records place ≡ Some rec)
    × (row ≡ journal_row config verdict_by rec) × (row.version ≡ rec.version)

-- each row of a journal has a verdict of each resolver for each of its transactions
abbrev pub AllJournalRowsHaveAllVerdicts : Type 0
AllJournalRowsHaveAllVerdicts =
    (config : Config) (verdict_by : VerdictSource) (records : List Record) (row : JournalRow)
    → Contains (journal config verdict_by records) row → HaveVerdictCount config.resolvers row

-- rows that every resolver replies alike are equal, if there is a resolver
abbrev pub ReplyRowsDetermineTheJournal : Type 0
ReplyRowsDetermineTheJournal =
    (resolvers : ℕ) (rows others : List JournalRow) → 0 < resolvers
    → ((row : JournalRow) → Contains rows row → HaveVerdictCount resolvers row)
    → ((row : JournalRow) → Contains others row → HaveVerdictCount resolvers row)
    → ((resolver : ℕ) → resolver < resolvers
    → map (reply_row_of resolver) rows ≡ map (reply_row_of resolver) others)
    → rows ≡ others

-- the rows of a journal up to a version are those of the records up to it
abbrev pub JournalRowsUpToAVersion : Type 0
JournalRowsUpToAVersion =
    (config : Config) (verdict_by : VerdictSource) (records : List Record) (version : ℕ)
    → filter (λ (row : JournalRow). nat_le row.version version) (journal config verdict_by records)
    ≡ journal config verdict_by (up_to_version version records)

-- the row that a resolver replies of a record is the record's journal row with the verdicts of this
-- resolver alone, and from resolver 0 the mutations and the lock-aware flag
abbrev pub ReplyRowsAreOfTheJournal : Type 0
ReplyRowsAreOfTheJournal =
    (config : Config) (verdict_by : VerdictSource) (rec : Record) (resolver : ℕ)
    → resolver < config.resolvers
    → reply_row verdict_by resolver rec ≡ reply_row_of resolver (journal_row config verdict_by rec)

-- a journal row has a verdict of each resolver for each of its transactions
abbrev pub JournalRowsHaveAllVerdicts : Type 0
JournalRowsHaveAllVerdicts =
    (config : Config) (verdict_by : VerdictSource) (rec : Record)
    → HaveVerdictCount config.resolvers (journal_row config verdict_by rec)

-- with at least one resolver, the replies of all resolvers determine the journal row
abbrev pub ReplyRowsDetermineTheJournalRow : Type 0
ReplyRowsDetermineTheJournalRow =
    (resolvers : ℕ) (row other : JournalRow)
    → 0 < resolvers → HaveVerdictCount resolvers row → HaveVerdictCount resolvers other
    → ((resolver : ℕ) → resolver < resolvers
    → reply_row_of resolver row ≡ reply_row_of resolver other)
    → row ≡ other

-- the rows that a proxy has not seen are the rows of the journal after its record before, as the
-- resolver replies them
abbrev pub UnseenRowsAreOfTheJournal : Type 0
UnseenRowsAreOfTheJournal =
    (config : Config) (verdict_by : VerdictSource) (resolver : ℕ) (before : List Record)
    (rec : Record)
    → resolver < config.resolvers
    → unseen verdict_by resolver before rec
    ≡ map (reply_row_of resolver)
    (journal config verdict_by (filter (is_after rec.own_previous) before))
