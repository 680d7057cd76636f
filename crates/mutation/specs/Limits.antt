-- What it means that every limit holds, in a transaction as a client gives it and in the changes
-- that come of it (this project's profile).
use Rattle.std.specs.Prelude.{◌≡◌, ℕ, ◌+◌, ◌≤◌, List, length, true, false, All}
use Rattle.system_keys.specs.declared.change.Change.{Change}
use Rattle.system_keys.specs.declared.change.Change.TheVariants as changes
use Rattle.system_keys.specs.Keys.{Key, Range, is_key_below, is_key_up_to}
use Rattle.system_keys.specs.Families.{kind_of}
use Rattle.system_keys.specs.Locations.{is_row_value}
use Rattle.system_keys.specs.Limits.{key_limit, end_limit, value_limit, key_space_end}
use Rattle.model.specs.Stamps.{Mutation, Set, Clear, SetStamped, AdmittedTransaction, offset_of}
use Rattle.model.specs.Transactions.{StampedTransaction}
use Rattle.mutation.specs.Faults.{has_fixed_form}

-- the transactions of a batch
abbrev pub batch_limit : ℕ
batch_limit = 1024

-- a range within the limits: it lies in the key space, and is not empty
pub record IsRange (range : Range) : Type 0 where
  pub begin_length : length range.begin ≤ key_limit
  pub end_length : length range.end ≤ end_limit
  pub begin_inside : is_key_below range.begin key_space_end ≡ true
  pub end_inside : is_key_up_to range.end key_space_end ≡ true
  pub not_empty : is_key_below range.begin range.end ≡ true

-- a row within the limits: its key lies in the key space, and its value decodes where rows of its
-- kind have a form
pub record IsRow (key : Key) (value : List ℕ) : Type 0 where
  pub key_length : length key ≤ key_limit
  pub value_length : length value ≤ value_limit
  pub key_inside : is_key_below key key_space_end ≡ true
  pub decodes : is_row_value (kind_of key) value ≡ true

-- a stamp can go into the row: its values have no fixed form, and before the four bytes of the
-- offset there is room for ten bytes at it
pub record TakesStamp (key : Key) (value : List ℕ) : Type 0 where
  pub free : has_fixed_form (kind_of key) ≡ false
  pub room : offset_of value + 10 + 4 ≤ length value

-- a mutation within the limits: the value of a SetStamped counts as it is given
abbrev pub IsMutation : Mutation → Type 0
IsMutation (Set key value) = IsRow key value
IsMutation (Clear range) = IsRange range
IsMutation (SetStamped key value) = IsRow key value × TakesStamp key value

-- every limit holds in the transaction
pub record EveryLimitHolds (t : AdmittedTransaction) : Type 0 where
  pub reads : All IsRange t.reads
  pub writes : All IsRange t.writes
  pub mutations : All IsMutation t.mutations

-- a change within the limits
abbrev pub IsChange : Change → Type 0
IsChange (changes.Set key value) = IsRow key value
IsChange (changes.Clear range) = IsRange range

-- every limit holds in the transaction with its stamps in
pub record EveryLimitStillHolds (t : StampedTransaction) : Type 0 where
  pub reads : All IsRange t.reads
  pub writes : All IsRange t.writes
  pub changes : All IsChange t.changes
