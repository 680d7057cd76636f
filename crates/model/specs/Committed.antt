-- The rule of commit key by key, and two consequences of it: what it means for the lock row, and
-- which outcome a committed transaction gets. The rule is that of the 2021 paper "FoundationDB: A
-- Distributed Unbundled Transactional Key Value Store".
use Rattle.std.specs.Prelude.{◌≡◌, ◌↔◌, ◌⊎◌, List, take, slice_get, Some, Contains, IsTrue, IsFalse}
use Rattle.system_keys.specs.Keys.{Key, Range, Overlap, holds, only}
use Rattle.model.specs.Numbers.{Version, TransactionNumber}
use Rattle.model.specs.Configs.{Config, IsConfig}
use Rattle.model.specs.declared.outcome.Outcome.TheVariants.{Committed}
use Rattle.model.specs.Transactions.{StampedTransaction, is_state_transaction, locked_key, all_reads}
use Rattle.model.specs.Records.{Record, IsHistory}
use Rattle.model.specs.Journal.{history_verdicts}
use Rattle.model.specs.Outcomes.{outcomes}
use Rattle.model.specs.Serial.{Place, IsBetween, IsCommitted, IsSerial}

-- ---- the rule key by key

-- the ranges cover the key: one of them holds it
pub record Cover (ranges : List Range) (key : Key) : Type 0 where
  pub range : Range
  pub range_in : Contains ranges range
  pub inside : IsTrue (holds range key)

-- Take two committed transactions, the second of which comes after the first and does not have it
-- in its snapshot. No key that the first wrote is one that the second read.
abbrev pub IsSerialByKeys : Config → List Record → Type 0
IsSerialByKeys config h =
    (a b : Place h) → IsCommitted config h a → IsCommitted config h b → IsBetween a b
    → (key : Key) → Cover a.transaction.writes key → ¬ Cover (all_reads b.transaction) key

-- the rule of commit is the same by ranges and by keys
abbrev pub SerialIsByKeys : Type 0
SerialIsByKeys = (config : Config) (h : List Record) → IsSerial config h ↔ IsSerialByKeys config h

-- ---- the lock row

-- the transaction writes over the lock row: some range of its writes contains the row's key
pub record WritesLockRow (t : StampedTransaction) : Type 0 where
  pub write : Range
  pub write_in : Contains t.writes write
  pub over : IsTrue (holds write locked_key)

-- a transaction, lock aware or not, writes over the lock row exactly if some range of its writes
-- overlaps the range of the lock row alone
abbrev pub WritingTheLockRowIsOverlap : Type 0
WritingTheLockRowIsOverlap =
    (t : StampedTransaction)
    → WritesLockRow t
    ↔ ((write : Range) × Contains t.writes write × Overlap write (only locked_key))

-- Take two committed transactions, the second of which comes after the first and does not have it
-- in its snapshot. If the first writes over the lock row, the second is no state transaction or is
-- lock aware.
abbrev pub IsLockRowKept : Config → List Record → Type 0
IsLockRowKept config h =
    (a b : Place h) → IsCommitted config h a → IsCommitted config h b → IsBetween a b
    → WritesLockRow a.transaction
    → IsFalse (is_state_transaction b.transaction) ⊎ IsTrue b.transaction.lock_aware

-- records that obey the rule of commit keep the lock row
abbrev pub SerialKeepsTheLockRow : Type 0
SerialKeepsTheLockRow =
    (config : Config) (h : List Record) → IsSerial config h → IsLockRowKept config h

-- every history keeps the lock row
abbrev pub HistoriesKeepTheLockRow : Type 0
HistoriesKeepTheLockRow =
    (config : Config) (h : List Record)
    → IsConfig config → IsHistory config h → IsLockRowKept config h

-- Records that keep the lock row have no committed state transaction that is not lock aware and
-- meets a lock: a write over the lock row by a committed transaction, lock aware or not, after its
-- snapshot.
abbrev pub ALockStopsPlainStateTransactions : Type 0
ALockStopsPlainStateTransactions =
    (config : Config) (h : List Record) (a b : Place h)
    → IsLockRowKept config h → IsCommitted config h a → IsBetween a b
    → Cover a.transaction.writes locked_key
    → IsTrue (is_state_transaction b.transaction) → IsFalse b.transaction.lock_aware
    → ¬ IsCommitted config h b

-- ---- the outcome of a committed transaction

-- the proxy returns Committed, with this version and this number, for the transaction at that place
abbrev pub IsToldCommitted :
    Config → (h : List Record) → Place h → Version → TransactionNumber → Type 0
IsToldCommitted config h a version number =
    slice_get (outcomes config (history_verdicts config h) (take a.i h) a.rec) a.n
    ≡ Some (Committed version number)

-- a transaction is committed exactly if the proxy returns Committed for it, with the version of its
-- record and its number in the batch
abbrev pub CommittedIsTold : Type 0
CommittedIsTold =
    (config : Config) (h : List Record) (a : Place h)
    → IsCommitted config h a ↔ IsToldCommitted config h a a.rec.version a.n

-- the proxy returns Committed with no other version and number
abbrev pub ToldNumbersAreItsOwn : Type 0
ToldNumbersAreItsOwn =
    (config : Config) (h : List Record) (a : Place h)
    (version : Version) (number : TransactionNumber)
    → IsToldCommitted config h a version number → (version ≡ a.rec.version) × (number ≡ a.n)
