-- Transactions with their versionstamps filled in, and what each reads.
-- Release 7.1, `CommitProxyServer.actor.cpp`, ResolutionRequestBuilder; what differs is marked
-- *profile*.
use Rattle.std.specs.Prelude.{List, [], ◌∷◌, ◌++◌, Bool, true, false, ◌&&◌, not}
use Rattle.std.specs.List.{list_any}
use Rattle.system_keys.specs.declared.change.Change.{Change}
use Rattle.system_keys.specs.Keys.{Key, Range, only}
use Rattle.system_keys.specs.Families.{locked_family}
use Rattle.system_keys.specs.Changes.{is_state}
use Rattle.model.specs.Numbers.{Version}

-- A transaction. It read the ranges `reads` at version `snapshot`, and the ranges `writes` count as
-- written by it. Its mutations `changes` add no range to either. A lock-aware transaction may
-- commit while the database is locked.
pub record StampedTransaction : Type 0 where
  pub snapshot : Version
  pub reads : List Range
  pub writes : List Range
  pub changes : List Change
  pub lock_aware : Bool

-- a state transaction: one with a state mutation
abbrev pub is_state_transaction : StampedTransaction → Bool
is_state_transaction t = list_any is_state t.changes

-- the key of the row that locks the database
abbrev pub locked_key : Key
locked_key = locked_family.prefix

-- the read of the lock row that a proxy adds, or none
abbrev pub lock_read : Bool → List Range
lock_read true = only locked_key ∷ []
lock_read false = []

-- All that a transaction reads: its own ranges, and the lock row if it is a state transaction that
-- is not lock aware. *Profile*: the added read stands last.
abbrev pub all_reads : StampedTransaction → List Range
all_reads t = t.reads ++ lock_read (is_state_transaction t && not t.lock_aware)
