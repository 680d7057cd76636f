-- The rule of commit: no committed transaction read what another committed one wrote between its
-- snapshot and itself. The rule is that of the 2021 paper "FoundationDB: A Distributed Unbundled
-- Transactional Key Value Store"; the verdicts by places are those of release 7.1,
-- `Resolver.actor.cpp`, resolveBatch.
use Rattle.std.specs.Prelude.{◌≡◌, ◌<◌, ◌⊎◌, List, take, slice_get, Some, IsTrue, IsFalse}
use Rattle.std.specs.Prelude.{Contains}
use Rattle.system_keys.specs.Keys.{Range, Overlap}
use Rattle.model.specs.Numbers.{ResolverNumber, RowNumber, TransactionNumber}
use Rattle.model.specs.Configs.{Config}
use Rattle.model.specs.declared.verdict.Verdict.{Verdict}
use Rattle.model.specs.declared.verdict.Verdict.TheVariants.{Committed as SaysCommitted}
use Rattle.model.specs.Transactions.{StampedTransaction, all_reads}
use Rattle.model.specs.Records.{Record}
use Rattle.model.specs.Shares.{part_of, asks}
use Rattle.model.specs.Verdicts.{JudgedPart, is_too_old, verdict_of}
use Rattle.model.specs.Metadata.{is_locked, metadata}
use Rattle.model.specs.Journal.{history_verdicts, journal}
use Rattle.model.specs.declared.outcome.Outcome.TheVariants.{Committed}
use Rattle.model.specs.Outcomes.{outcome}

-- a transaction of the history, by its place: record i, and transaction n of that record's batch
pub record Place (h : List Record) : Type 0 where
  pub i : RowNumber
  pub n : TransactionNumber
  pub rec : Record
  pub transaction : StampedTransaction
  pub record_is : slice_get h i ≡ Some rec
  pub transaction_is : slice_get rec.batch n ≡ Some transaction

-- a comes before b and is not in b's snapshot: it is earlier in b's batch, or in an earlier record
-- whose version is above b's snapshot
abbrev pub IsBetween : {h : List Record} → (a b : Place h) → Type 0
IsBetween a b =
    ((a.i ≡ b.i) × (a.n < b.n)) ⊎ ((a.i < b.i) × (b.transaction.snapshot < a.rec.version))

-- ---- the rule

-- the transaction at that place has the outcome Committed, by the verdicts of the history and by
-- the lock in the metadata before its record
abbrev pub IsCommitted : Config → (h : List Record) → Place h → Type 0
IsCommitted config h a =
    let verdict_by = history_verdicts config h in
    let locked = is_locked (metadata (journal config verdict_by (take a.i h))) in
    outcome config verdict_by locked a.rec a.n a.transaction ≡ Committed a.rec.version a.n

-- Of each two committed transactions, the second of which comes after the first and does not have
-- it in its snapshot, no write of the first overlaps a read of the second. The added read of the
-- lock row counts as a read.
abbrev pub IsSerial : Config → List Record → Type 0
IsSerial config h =
    (a b : Place h) → IsCommitted config h a → IsCommitted config h b → IsBetween a b
    → (write read : Range)
    → Contains a.transaction.writes write → Contains (all_reads b.transaction) read
    → ¬ Overlap write read

-- ---- the verdict of a resolver, by the places of a history

-- the part that resolver r gets of the transaction at that place
abbrev pub seen_at : Config → ResolverNumber → {h : List Record} → Place h → JudgedPart
seen_at config r a =
    record { version = a.rec.version; part = part_of config a.rec r a.n a.transaction }

-- the verdict of resolver r on the transaction at that place
abbrev pub verdict_at_place : Config → ResolverNumber → (h : List Record) → Place h → Verdict
verdict_at_place config r h a =
    verdict_of config r (take a.i h) a.rec (take a.n a.rec.batch) a.transaction

-- A Conflict, by all pairs of the history. The transaction b is not too old. Some a, which r
-- committed, comes between b's snapshot and b. Some read of b in r's share overlaps a write of a in
-- r's share.
pub record HasConflictWith
    (config : Config) (r : ResolverNumber) (h : List Record) (b : Place h) : Type 0 where
  pub in_time : IsFalse (is_too_old config.window (seen_at config r b))
  pub a : Place h
  pub asked : IsTrue (asks config a.rec r a.transaction)
  pub committed : verdict_at_place config r h a ≡ SaysCommitted
  pub between : IsBetween a b
  pub read : Range
  pub write : Range
  pub read_in : Contains (seen_at config r b).part.reads read
  pub write_in : Contains (seen_at config r a).part.writes write
  pub overlap : Overlap read write
