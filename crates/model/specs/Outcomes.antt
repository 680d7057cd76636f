-- The outcome of each transaction, which the proxy returns to its client. Release 7.1,
-- `CommitProxyServer.actor.cpp`, determineCommittedTransactions; what differs is marked *profile*.
use Rattle.std.specs.Prelude.{suc, List, [], ◌∷◌, map, Bool, ◌&&◌, not, if◌then◌else◌}
use Rattle.model.specs.Numbers.{Version, ResolverNumber, TransactionNumber}
use Rattle.model.specs.Configs.{Config}
use Rattle.model.specs.declared.verdict.Verdict.{Verdict}
use Rattle.model.specs.declared.verdict.Verdict.TheVariants as verdicts
use Rattle.model.specs.declared.journal.JournalRow.{JournalRow}
use Rattle.model.specs.declared.outcome.Outcome.{Outcome}
use Rattle.model.specs.declared.outcome.Outcome.TheVariants.{Committed, Conflict, TooOld, Locked}
use Rattle.model.specs.Transactions.{StampedTransaction}
use Rattle.model.specs.Records.{Record}
use Rattle.model.specs.Shares.{asked}
use Rattle.model.specs.Verdicts.{joined}
use Rattle.model.specs.Metadata.{is_locked, metadata}
use Rattle.model.specs.Journal.{VerdictSource, journal}

-- the joined verdict of the resolvers that get a part of transaction n of the record
unfoldable pub joined_verdict :
    Config → VerdictSource → Record → (n : TransactionNumber) → StampedTransaction → Verdict
joined_verdict config verdict_by rec n t =
    joined (map (λ (r : ResolverNumber). verdict_by r rec.row n) (asked config rec t))

-- the lock refuses the transaction: the database is locked, and the transaction is not lock aware
abbrev pub is_refused : (locked : Bool) → StampedTransaction → Bool
is_refused locked t = not t.lock_aware && locked

-- The outcome by the joined verdict. The lock may refuse what the resolvers committed.
-- *Profile*: Locked is a separate outcome.
abbrev pub outcome_of_verdict : Verdict → (refused : Bool) → Version → TransactionNumber → Outcome
outcome_of_verdict verdicts.Conflict refused version number = Conflict
outcome_of_verdict verdicts.TooOld refused version number = TooOld
outcome_of_verdict verdicts.Committed refused version number =
    if refused then Locked else Committed version number

-- the outcome of transaction n of the record; `locked` is the lock in the metadata before the
-- record
unfoldable pub outcome :
    Config → VerdictSource → (locked : Bool) → Record → (n : TransactionNumber) → StampedTransaction
    → Outcome
outcome config verdict_by locked rec n t =
    outcome_of_verdict (joined_verdict config verdict_by rec n t) (is_refused locked t) rec.version n

-- the outcomes of some transactions of the record, numbered from n
abbrev pub outcomes_from :
    Config → VerdictSource → (locked : Bool) → Record → (n : TransactionNumber)
    → List StampedTransaction → List Outcome
outcomes_from config verdict_by locked rec n [] = []
outcomes_from config verdict_by locked rec n (t ∷ ts) =
    outcome config verdict_by locked rec n t
    ∷ outcomes_from config verdict_by locked rec (suc n) ts

-- the outcomes of a record's batch, after a journal of the records before it; the lock is read
-- once, before the first transaction of the batch
unfoldable pub outcomes_after :
    Config → VerdictSource → (journal_before : List JournalRow) (rec : Record) → List Outcome
outcomes_after config verdict_by journal_before rec =
    outcomes_from config verdict_by (is_locked (metadata journal_before)) rec 0 rec.batch

-- the outcomes of a record's batch, after the records before it
abbrev pub outcomes :
    Config → VerdictSource → (before : List Record) (rec : Record) → List Outcome
outcomes config verdict_by before rec =
    outcomes_after config verdict_by (journal config verdict_by before) rec
