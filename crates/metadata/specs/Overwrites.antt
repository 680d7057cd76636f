-- Entries that are written over others: what one row of a journal removes, and what it puts.
use Rattle.std.specs.Prelude.{◌≡◌, ℕ, List, [], ◌∷◌, map, Bool, true, Option, None, Some}
use Rattle.std.specs.Prelude.{if◌then◌else◌, filter, not}
use Rattle.std.specs.Borrow.{Bor}
use Rattle.std.specs.Option.{is_some, option_or}
use Rattle.std.specs.List.{flat_map, list_any}
use Rattle.std.specs.Map.{keys_of}
use Rattle.std.specs.BTreeMap.{is_at, insert_entry}
use Rattle.std.specs.Ordering.{nat_cmp}
use Rattle.std.specs.Cmp.Lexicographic.{slice_cmp}
use Rattle.system_keys.specs.declared.change.Change.{Change}
use Rattle.system_keys.specs.declared.change.Change.TheVariants.{Set, Clear}
use Rattle.system_keys.specs.Keys.{Key, Range, holds}
use Rattle.model.specs.declared.journal.StateTxn.{StateTxn}
use Rattle.model.specs.Metadata.{Entry, Entries, IsInOrder, AreKept, entry_value, is_applied}

-- the two keys are the same
abbrev pub is_same_key : Key → Key → Bool
is_same_key key other = is_at (slice_cmp nat_cmp key) other

-- the key is one of these
abbrev pub is_listed : List Key → Key → Bool
is_listed keys key = list_any (is_same_key key) keys

-- the entries have one at this key
abbrev pub has_entry : Entries → Key → Bool
has_entry entries key = is_some (entry_value entries key)

-- The entries after the entries at some keys are removed, and then others are put: what each key
-- has.
abbrev pub IsOverwritten : (removed : List Key) (puts old new : Entries) → Type 0
IsOverwritten removed puts old new =
    (key : Key)
    → entry_value new key
    ≡ option_or (entry_value puts key) (if is_listed removed key then None else entry_value old key)

-- the changes of the transactions that are applied, in order
abbrev pub changes_of : (locked : Bool) → List StateTxn → List Change
changes_of locked states = flat_map (λ (t : StateTxn). t.mutations) (filter (is_applied locked) states)

-- the keys of the entries that a change clears
abbrev pub keys_cleared : Entries → Change → List Key
keys_cleared entries (Set key value) = []
keys_cleared entries (Clear range) = keys_of (filter (λ (entry : Entry). holds range entry.0) entries)

-- the keys of the entries that some changes clear, one change after another
abbrev pub cleared_keys : Entries → List Change → List Key
cleared_keys entries changes = flat_map (keys_cleared entries) changes

-- the ranges that a change clears
abbrev pub range_cleared : Change → List Range
range_cleared (Set key value) = []
range_cleared (Clear range) = range ∷ []

-- the ranges that some changes clear, one change after another
abbrev pub cleared_ranges : List Change → List Range
cleared_ranges changes = flat_map range_cleared changes

-- the ranges that some references lend
abbrev pub lent_ranges : List (Bor Range) → List Range
lent_ranges ranges = map (λ (range : Bor Range). range.now) ranges

-- one of the ranges holds the key
abbrev pub is_held : List Range → Key → Bool
is_held ranges key = list_any (λ (range : Range). holds range key) ranges

-- the entries without those at some keys
abbrev pub entries_without : (keys : List Key) → Entries → Entries
entries_without keys entries = filter (λ (entry : Entry). not (is_listed keys entry.0)) entries

-- ---- entries that are put over others, and taken back

-- the entries after others are put over them: what each key has
abbrev pub IsPutOver : (puts old new : Entries) → Type 0
IsPutOver puts old new =
    (key : Key) → entry_value new key ≡ option_or (entry_value puts key) (entry_value old key)

-- a key, and the value that stood there before another one was put, or None
abbrev pub Displaced : Type 0
Displaced = Key × Option (List ℕ)

-- the entries after the value that stood at a key is put back
abbrev pub value_back : Entries → Key → Option (List ℕ) → Entries
value_back entries key None = entries_without (key ∷ []) entries
value_back entries key (Some value) = insert_entry (slice_cmp nat_cmp) entries key value

-- the entries after what was displaced is put back, the last one first
abbrev pub taken_back : List Displaced → Entries → Entries
taken_back [] entries = entries
taken_back (first ∷ later) entries = value_back (taken_back later entries) first.0 first.1

-- each value finds an entry at its key when it is put back
abbrev pub FindEntries : List Displaced → Entries → Type 0
FindEntries [] entries = Unit {0}
FindEntries (first ∷ later) entries =
    (is_some first.1 ≡ true → has_entry (taken_back later entries) first.0 ≡ true)
    × FindEntries later entries

-- what was displaced gives the entries before those that were put
pub record TakesBack (displaced : List Displaced) (old new : Entries) : Type 0 where
  pub find : FindEntries displaced new
  pub gives : taken_back displaced new ≡ old

-- this takes back entries that were put over those of a metadata
pub record MayTakeBack (displaced : List Displaced) (new : Entries) : Type 0 where
  pub old : Entries
  pub takes : TakesBack displaced old new
  pub order : IsInOrder old
  pub kept : AreKept old
