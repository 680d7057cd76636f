-- Transactions as clients submit them, and the versionstamps that their batch fills in.
-- Release 7.1, `Atomic.h`, transformVersionstampMutation; what differs is marked *profile*.
use Rattle.std.specs.Prelude.{ℕ, zero, suc, ◌+◌, ◌-◌, ◌*◌, ◌/◌, ◌%◌, List, [], ◌∷◌, ◌++◌, length}
use Rattle.std.specs.Prelude.{take, drop, map, Bool}
use Rattle.system_keys.specs.declared.change.Change.{Change}
use Rattle.system_keys.specs.declared.change.Change.TheVariants as changes
use Rattle.system_keys.specs.Keys.{Key, Range}
use Rattle.model.specs.Numbers.{Version, TransactionNumber}
use Rattle.model.specs.Transactions.{StampedTransaction}

-- a mutation as a client submits it: a SetStamped is a Set whose value awaits its versionstamp
pub data Mutation : Type 0 where
  Set : (key : Key) (value : List ℕ) → Mutation
  Clear : (range : Range) → Mutation
  SetStamped : (key : Key) (value : List ℕ) → Mutation

-- A transaction as a client submits it. It read the ranges `reads` at version `snapshot`, and the
-- ranges `writes` count as written by it. Its mutations add no range to either.
pub record AdmittedTransaction : Type 0 where
  pub snapshot : Version
  pub reads : List Range
  pub writes : List Range
  pub mutations : List Mutation
  pub lock_aware : Bool

-- ---- the versionstamp

-- the last n bytes of a number, the most significant first
abbrev pub big_endian : (n x : ℕ) → List ℕ
big_endian zero x = []
big_endian (suc n) x = big_endian n (x / 256) ++ x % 256 ∷ []

-- the number of some bytes, the least significant first
abbrev pub from_little_endian : List ℕ → ℕ
from_little_endian [] = 0
from_little_endian (b ∷ bytes) = b + 256 * from_little_endian bytes

-- the versionstamp of a transaction: the version of its batch in eight bytes, and its number in the
-- batch in two
abbrev pub stamp : Version → TransactionNumber → List ℕ
stamp version number = big_endian 8 version ++ big_endian 2 number

-- the text with the ten bytes at `offset` replaced by the versionstamp
abbrev pub stamped_at : (offset : ℕ) → Version → TransactionNumber → (text : List ℕ) → List ℕ
stamped_at offset version number text =
    take offset text ++ stamp version number ++ drop (offset + 10) text

-- the text of a value that awaits its versionstamp: all but its last four bytes
abbrev pub text_of : (value : List ℕ) → List ℕ
text_of value = take (length value - 4) value

-- the place of the versionstamp: the last four bytes, the least significant first
abbrev pub offset_of : (value : List ℕ) → ℕ
offset_of value = from_little_endian (drop (length value - 4) value)

-- a value that awaits its versionstamp, with the versionstamp filled in
abbrev pub stamped_value : Version → TransactionNumber → (value : List ℕ) → List ℕ
stamped_value version number value = stamped_at (offset_of value) version number (text_of value)

-- a mutation of transaction `number` in the batch of `version`: a SetStamped becomes a Set
abbrev pub stamped_mutation : Version → TransactionNumber → Mutation → Change
stamped_mutation version number (Set key value) = changes.Set key value
stamped_mutation version number (Clear range) = changes.Clear range
stamped_mutation version number (SetStamped key value) =
    changes.Set key (stamped_value version number value)

-- transaction `number` of the batch of `version`, with its versionstamps filled in
abbrev pub stamped : Version → TransactionNumber → AdmittedTransaction → StampedTransaction
stamped version number t =
    record {
      snapshot = t.snapshot;
      reads = t.reads;
      writes = t.writes;
      changes = map (stamped_mutation version number) t.mutations;
      lock_aware = t.lock_aware;
    }

-- the transactions of a batch, numbered from n, each with its versionstamps filled in
abbrev pub stamped_from : Version → (n : TransactionNumber) → List AdmittedTransaction
    → List StampedTransaction
stamped_from version n [] = []
stamped_from version n (t ∷ ts) = stamped version n t ∷ stamped_from version (suc n) ts
