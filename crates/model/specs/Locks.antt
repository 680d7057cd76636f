-- A lock that is held: what sets it, what leaves it as it is, and whom it refuses. Release 7.1,
-- `CommitProxyServer.actor.cpp`, determineCommittedTransactions.
use Rattle.std.specs.Prelude.{◌≡◌, ◌<◌, ◌⊎◌, ℕ, List, [], ◌∷◌, ◌++◌, take, slice_get, Some, Contains}
use Rattle.std.specs.Prelude.{IsTrue, IsFalse}
use Rattle.system_keys.specs.declared.change.Change.{Change}
use Rattle.system_keys.specs.declared.change.Change.TheVariants.{Set, Clear}
use Rattle.system_keys.specs.Keys.{holds}
use Rattle.model.specs.Numbers.{RowNumber}
use Rattle.model.specs.Configs.{Config}
use Rattle.model.specs.declared.outcome.Outcome.TheVariants.{Locked}
use Rattle.model.specs.declared.verdict.Verdict.TheVariants.{Committed}
use Rattle.model.specs.Transactions.{locked_key}
use Rattle.model.specs.Records.{Record}
use Rattle.model.specs.Metadata.{is_locked, metadata}
use Rattle.model.specs.Journal.{history_verdicts, journal}
use Rattle.model.specs.Outcomes.{joined_verdict, outcomes}
use Rattle.model.specs.Serial.{Place, IsCommitted}

-- the change leaves the lock row as it is: it sets another key, or clears a range without that row
abbrev pub LeavesLockRow : Change → Type 0
LeavesLockRow (Set key value) = ¬ (key ≡ locked_key)
LeavesLockRow (Clear range) = IsFalse (holds range locked_key)

-- The changes lock the database: one of them sets the lock row to a value that is not empty, and
-- those after it leave that row as it is.
pub record LockTheDatabase (changes : List Change) : Type 0 where
  pub before : List Change
  pub value : List ℕ
  pub after : List Change
  pub changes_are : changes ≡ before ++ Set locked_key value ∷ after
  pub filled : ¬ (value ≡ [])
  pub kept : (change : Change) → Contains after change → LeavesLockRow change

-- place a comes before place c: earlier in one batch, or in an earlier record
abbrev pub IsEarlier : {h : List Record} → (a c : Place h) → Type 0
IsEarlier a c = ((a.i ≡ c.i) × (a.n < c.n)) ⊎ (a.i < c.i)

-- Before record i a lock is held: a committed transaction of an earlier record locked the database,
-- and each committed one after it, before record i, leaves the lock row as it is.
pub record IsLockHeld (config : Config) (h : List Record) (i : RowNumber) : Type 0 where
  pub a : Place h
  pub earlier : a.i < i
  pub committed : IsCommitted config h a
  pub locks : LockTheDatabase a.transaction.changes
  pub held :
      (c : Place h) (change : Change) → IsEarlier a c → c.i < i → IsCommitted config h c
      → Contains c.transaction.changes change → LeavesLockRow change

-- ---- the statements of the law

-- if a lock is held before record i, the metadata of the records before it is locked
abbrev pub AHeldLockIsInTheMetadata : Type 0
AHeldLockIsInTheMetadata =
    (config : Config) (h : List Record) (i : RowNumber) → IsLockHeld config h i
    → IsTrue (is_locked (metadata (journal config (history_verdicts config h) (take i h))))

-- and so a transaction of that record that is not lock aware is Locked, if its resolvers commit it
abbrev pub AHeldLockRefusesThePlain : Type 0
AHeldLockRefusesThePlain =
    (config : Config) (h : List Record) (b : Place h)
    → IsLockHeld config h b.i → IsFalse b.transaction.lock_aware
    → joined_verdict config (history_verdicts config h) b.rec b.n b.transaction ≡ Committed
    → slice_get (outcomes config (history_verdicts config h) (take b.i h) b.rec) b.n ≡ Some Locked
