-- Statements of outcomes and finished batches.
use Rattle.std.specs.Prelude.{◌↔◌, Bool, IsTrue, IsFalse, ◌≡◌, ◌++◌, ℕ, List, [], ◌∷◌, slice_get}
use Rattle.std.specs.Prelude.{Some, Contains}
use Rattle.model.specs.Configs.{Config}
use Rattle.model.specs.declared.journal.JournalRow.{JournalRow}
use Rattle.model.specs.declared.outcome.Tagged.{Tagged}
use Rattle.model.specs.Transactions.{StampedTransaction}
use Rattle.model.specs.Records.{Record}
use Rattle.model.specs.Metadata.{is_locked, metadata}
use Rattle.model.specs.Journal.{VerdictSource, journal_row, journal}
use Rattle.model.specs.Outcomes.{is_refused, outcome, outcomes_after, outcomes}
use Rattle.model.specs.World.{IsTaggedBy, finished_after}

-- the outcome of each transaction of a batch stands at its number, after any journal before
abbrev pub OutcomesStandAtTheirNumbers : Type 0
OutcomesStandAtTheirNumbers =
    (config : Config) (verdict_by : VerdictSource) (journal_before : List JournalRow)
    (rec : Record) (number : ℕ) (transaction : StampedTransaction)
    → slice_get rec.batch number ≡ Some transaction
    → slice_get (outcomes_after config verdict_by journal_before rec) number
    ≡ Some (outcome config verdict_by (is_locked (metadata journal_before)) rec number transaction)

-- and so it does after the records before
abbrev pub OutcomesAfterRecords : Type 0
OutcomesAfterRecords =
    (config : Config) (verdict_by : VerdictSource) (before : List Record) (rec : Record)
    (number : ℕ) (transaction : StampedTransaction)
    → slice_get rec.batch number ≡ Some transaction
    → slice_get (outcomes config verdict_by before rec) number
    ≡ Some (outcome config verdict_by (is_locked (metadata (journal config verdict_by before))) rec
    number transaction)

-- the lock refuses exactly the transactions that are not lock aware, while the database is locked
abbrev pub TheLockRefusesThePlain : Type 0
TheLockRefusesThePlain =
    (locked : Bool) (transaction : StampedTransaction)
    → IsTrue (is_refused locked transaction)
    ↔ (IsTrue locked × IsFalse transaction.lock_aware)

-- the outcomes in a finished batch are those of its record
abbrev pub FinishedOutcomesAreOfTheRecord : Type 0
FinishedOutcomesAreOfTheRecord =
    (config : Config) (verdict_by : VerdictSource) (journal_before : List JournalRow)
    (rec : Record)
    → (finished_after config verdict_by journal_before rec).outcomes
    ≡ outcomes_after config verdict_by journal_before rec

-- each mutation in a finished batch has the tags, and the private copy, that the metadata after the
-- record's own row gives it
abbrev pub FinishedTagsAreAfterTheRow : Type 0
FinishedTagsAreAfterTheRow =
    (config : Config) (verdict_by : VerdictSource) (journal_before : List JournalRow)
    (rec : Record) (tagged : Tagged)
    → Contains (finished_after config verdict_by journal_before rec).tagged tagged
    → IsTaggedBy (metadata (journal_before ++ journal_row config verdict_by rec ∷ [])) tagged

-- a finished batch has the row of its record
abbrev pub FinishedBatchesHaveTheRow : Type 0
FinishedBatchesHaveTheRow =
    (config : Config) (verdict_by : VerdictSource) (journal_before : List JournalRow)
    (rec : Record)
    → (finished_after config verdict_by journal_before rec).row ≡ rec.row

-- and its version
abbrev pub FinishedBatchesHaveTheVersion : Type 0
FinishedBatchesHaveTheVersion =
    (config : Config) (verdict_by : VerdictSource) (journal_before : List JournalRow)
    (rec : Record)
    → (finished_after config verdict_by journal_before rec).version ≡ rec.version
