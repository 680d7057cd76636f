-- A missing verdict counts as Conflict: one that a history, a cell or a list of verdicts does not
-- have. *Profile*: all of it.
use Rattle.std.specs.Prelude.{◌≡◌, ℕ, List, slice_get, Some, None}
use Rattle.model.specs.Numbers.{ResolverNumber, RowNumber, TransactionNumber}
use Rattle.model.specs.Configs.{Config}
use Rattle.model.specs.declared.part.Part.{Part}
use Rattle.model.specs.declared.verdict.Verdict.{Verdict}
use Rattle.model.specs.declared.verdict.Verdict.TheVariants.{Conflict}
use Rattle.model.specs.declared.journal.StateTxn.{StateTxn}
use Rattle.model.specs.declared.unseen.StateMark.{StateMark}
use Rattle.model.specs.Records.{Record}
use Rattle.model.specs.Shares.{share}
use Rattle.model.specs.Journal.{history_verdicts, list_at, cell_verdicts, reply_state_of}
use Rattle.model.specs.Requests.{reply_state_of_mark}
use Rattle.model.specs.Agreed.{Columns}

-- no place has both a part of this number and a verdict
abbrev pub HasNoVerdict : List Part → List Verdict → (number : TransactionNumber) → Type 0
HasNoVerdict parts verdicts number =
    (place : ℕ) (part : Part) → slice_get parts place ≡ Some part → part.number ≡ number
    → slice_get verdicts place ≡ None

-- if a history has no record in this row, each verdict in the row is Conflict
abbrev pub NoRecordIsConflict : Type 0
NoRecordIsConflict =
    (config : Config) (h : List Record)
    (r : ResolverNumber) (row : RowNumber) (number : TransactionNumber)
    → slice_get h row ≡ None → history_verdicts config h r row number ≡ Conflict

-- if the record of a row has no transaction of this number, the verdict on it is Conflict
abbrev pub NoTransactionIsConflict : Type 0
NoTransactionIsConflict =
    (config : Config) (h : List Record)
    (r : ResolverNumber) (row : RowNumber) (number : TransactionNumber) (rec : Record)
    → slice_get h row ≡ Some rec → slice_get rec.batch number ≡ None
    → history_verdicts config h r row number ≡ Conflict

-- if a view has no record in this row, each verdict by its cells in the row is Conflict
abbrev pub UnknownRecordIsConflict : Type 0
UnknownRecordIsConflict =
    (config : Config) (h : List Record) (columns : Columns)
    (r : ResolverNumber) (row : RowNumber) (number : TransactionNumber)
    → slice_get h row ≡ None → cell_verdicts config h columns r row number ≡ Conflict

-- If a cell has no verdict on a part of this number, the verdict is Conflict. The cell may be
-- missing or too short, or the share may have no such part.
abbrev pub NoVerdictInCellIsConflict : Type 0
NoVerdictInCellIsConflict =
    (config : Config) (h : List Record) (columns : Columns)
    (r : ResolverNumber) (row : RowNumber) (number : TransactionNumber) (rec : Record)
    → slice_get h row ≡ Some rec
    → HasNoVerdict (share config rec r) (list_at (list_at columns r) row) number
    → cell_verdicts config h columns r row number ≡ Conflict

-- a resolver replies Conflict for a marked state transaction without a verdict
abbrev pub UnjudgedMarkIsConflict : Type 0
UnjudgedMarkIsConflict =
    (parts : List Part) (verdicts : List Verdict) (mark : StateMark)
    → HasNoVerdict parts verdicts mark.number
    → (reply_state_of_mark parts verdicts mark).verdict ≡ Conflict

-- resolver r replies Conflict for a state transaction that has no verdict of r
abbrev pub NoVerdictIsToldAsConflict : Type 0
NoVerdictIsToldAsConflict =
    (r : ResolverNumber) (t : StateTxn) → slice_get t.verdicts r ≡ None
    → (reply_state_of r t).verdict ≡ Conflict
