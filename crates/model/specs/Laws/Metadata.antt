-- Statements of the metadata: its order, the lock, the entries that serve keys, and tags.
use Rattle.std.specs.Prelude.{◌≡◌, ◌↔◌, ◌⊎◌, ◌<◌, ◌++◌, ℕ, Bool, List, length, slice_get, fold}
use Rattle.std.specs.Prelude.{Some, None, Ok, IsTrue, IsFalse, Contains, flat_map}
use Rattle.std.specs.List.Sorted.{IsStrictlySortedBy}
use Rattle.system_keys.specs.declared.change.Change.{Change}
use Rattle.system_keys.specs.declared.change.Change.TheVariants.{Set, Clear}
use Rattle.system_keys.specs.Keys.{Key, Range, holds, is_key_below, is_key_up_to}
use Rattle.system_keys.specs.Families.{is_kept_key, key_servers_family}
use Rattle.system_keys.specs.declared.location.Location.TheVariants as locations
use Rattle.system_keys.specs.declared.tag.Tag.{Tag}
use Rattle.system_keys.specs.Rows.{Servers}
use Rattle.system_keys.specs.ListedTags.{ListedTags}
use Rattle.system_keys.specs.Locations.{location_at}
use Rattle.model.specs.declared.journal.JournalRow.{JournalRow}
use Rattle.model.specs.declared.journal.StateTxn.{StateTxn}
use Rattle.model.specs.declared.verdict.Verdict.TheVariants.{Committed}
use Rattle.model.specs.Metadata.{Entries, IsInOrder, AreKept, entry_value, after_change}
use Rattle.model.specs.Metadata.{after_changes, after_journal_row, applied_changes, is_applied}
use Rattle.model.specs.Metadata.{is_locked, metadata, Entry, key_servers_entries, serving_entry}
use Rattle.model.specs.Metadata.{touched_entries, tags, entry_tags, server_tags}
use Rattle.system_keys.specs.ListedTags.{tag_cmp}
use Rattle.model.specs.Routes.{Serves, ServesSome, HasTag}

-- the entries of every metadata are in strict order of their keys
abbrev pub MetadataIsInOrder : Type 0
MetadataIsInOrder = (journal : List JournalRow) → IsInOrder (metadata journal)

-- all keys of every metadata are kept ones
abbrev pub MetadataKeysAreKept : Type 0
MetadataKeysAreKept = (journal : List JournalRow) → AreKept (metadata journal)

-- the metadata of a longer journal continues from the metadata of its first rows
abbrev pub MetadataContinues : Type 0
MetadataContinues =
    (journal later : List JournalRow)
    → metadata (journal ++ later) ≡ fold after_journal_row (metadata journal) later

-- each change keeps the order
abbrev pub ChangesKeepTheOrder : Type 0
ChangesKeepTheOrder =
    (entries : Entries) (change : Change) → IsInOrder entries
    → IsInOrder (after_change entries change)

-- and so does each row of a journal
abbrev pub JournalRowsKeepTheOrder : Type 0
JournalRowsKeepTheOrder =
    (entries : Entries) (row : JournalRow) → IsInOrder entries
    → IsInOrder (after_journal_row entries row)

-- if all keys are kept ones, they still are after a change
abbrev pub ChangesAddKeptKeysAlone : Type 0
ChangesAddKeptKeysAlone =
    (entries : Entries) (change : Change) → AreKept entries → AreKept (after_change entries change)

-- and after a row of a journal
abbrev pub JournalRowsAddKeptKeysAlone : Type 0
JournalRowsAddKeptKeysAlone =
    (entries : Entries) (row : JournalRow) → AreKept entries
    → AreKept (after_journal_row entries row)

-- a Set of a kept key puts its value there
abbrev pub ASetPutsItsValue : Type 0
ASetPutsItsValue =
    (entries : Entries) (key : Key) (value : List ℕ) → IsTrue (is_kept_key key)
    → entry_value (after_change entries (Set key value)) key ≡ Some value

-- a Set changes no other key
abbrev pub ASetChangesNoOtherKey : Type 0
ASetChangesNoOtherKey =
    (entries : Entries) (key other : Key) (value : List ℕ) → ¬ (other ≡ key)
    → entry_value (after_change entries (Set key value)) other ≡ entry_value entries other

-- a Set of a key that is not kept changes nothing
abbrev pub ASetOfAnotherKeyChangesNothing : Type 0
ASetOfAnotherKeyChangesNothing =
    (entries : Entries) (key : Key) (value : List ℕ) → IsFalse (is_kept_key key)
    → after_change entries (Set key value) ≡ entries

-- a Clear removes each key of its range
abbrev pub AClearRemovesItsRange : Type 0
AClearRemovesItsRange =
    (entries : Entries) (range : Range) (key : Key) → IsTrue (holds range key)
    → entry_value (after_change entries (Clear range)) key ≡ None

-- a Clear changes no key outside its range
abbrev pub AClearChangesNoOtherKey : Type 0
AClearChangesNoOtherKey =
    (entries : Entries) (range : Range) (key : Key) → IsFalse (holds range key)
    → entry_value (after_change entries (Clear range)) key ≡ entry_value entries key

-- a state transaction is applied exactly if each of its verdicts is Committed, and it is lock aware
-- or the database is not locked
abbrev pub AppliedIsCommittedAndUnlocked : Type 0
AppliedIsCommittedAndUnlocked =
    (locked : Bool) (transaction : StateTxn)
    → IsTrue (is_applied locked transaction)
    ↔ (((resolver : ℕ) → resolver < length transaction.verdicts
    → slice_get transaction.verdicts resolver ≡ Some Committed)
    × (IsTrue transaction.lock_aware ⊎ IsFalse locked))

-- a row of a journal makes the changes that the lock before it lets through, in order, whatever its
-- own transactions write to the lock
abbrev pub ARowReadsTheLockBeforeIt : Type 0
ARowReadsTheLockBeforeIt =
    (entries : Entries) (row : JournalRow)
    → after_journal_row entries row
    ≡ after_changes entries (applied_changes (is_locked entries) row)

-- the keyServers entries are in order if all entries are
abbrev pub KeyServersAreInOrder : Type 0
KeyServersAreInOrder =
    (entries : Entries) → IsInOrder entries → IsInOrder (key_servers_entries entries)

-- the keyServers entries are exactly the entries with that prefix, which is taken off
abbrev pub KeyServersHaveThePrefix : Type 0
KeyServersHaveThePrefix =
    (entries : Entries) (entry : Entry)
    → Contains (key_servers_entries entries) entry
    ↔ Contains entries (key_servers_family.prefix ++ entry.0, entry.1)

-- the entry of a key is the one that serves it: at or before the key, and no other such entry is
-- above it
abbrev pub ServingEntryServes : Type 0
ServingEntryServes =
    (entries : Entries) (key : Key) (entry : Entry) → IsInOrder entries
    → (serving_entry (key_servers_entries entries) key ≡ Some entry)
    ↔ Serves (key_servers_entries entries) key entry

-- and so it is in every metadata
abbrev pub ServingEntryOfMetadataServes : Type 0
ServingEntryOfMetadataServes =
    (journal : List JournalRow) (key : Key) (entry : Entry)
    → (serving_entry (key_servers_entries (metadata journal)) key ≡ Some entry)
    ↔ Serves (key_servers_entries (metadata journal)) key entry

-- if no entry serves a key, no entry is at or before it
abbrev pub NoServingEntryMeansNoneBefore : Type 0
NoServingEntryMeansNoneBefore =
    (entries : Entries) (key : Key) (entry : Entry)
    → serving_entry entries key ≡ None → Contains entries entry
    → IsFalse (is_key_up_to entry.0 key)

-- the tags of a change are sorted by locality and then by id, and distinct
abbrev pub TagsAreSortedAndDistinct : Type 0
TagsAreSortedAndDistinct =
    (entries : Entries) (change : Change) → IsStrictlySortedBy tag_cmp (tags entries change)

-- they are exactly those of the servers named by the keyServers entries that the change touches, and
-- those that these entries list
abbrev pub TagsAreOfTheTouchedRows : Type 0
TagsAreOfTheTouchedRows =
    (entries : Entries) (change : Change) (tag : Tag)
    → Contains (tags entries change) tag ↔ HasTag entries change tag

-- a row that names servers has exactly the tags of its servers
abbrev pub ARowOfServersHasTheirTags : Type 0
ARowOfServersHasTheirTags =
    (entries : Entries) (row : Entry) (servers : Servers)
    → location_at row.1 ≡ Ok (locations.Servers servers)
    → entry_tags entries row
    ≡ flat_map (server_tags entries) (servers.sources ++ servers.destinations)

-- a row that lists tags has exactly these, whatever other rows there are
abbrev pub ARowOfTagsHasThem : Type 0
ARowOfTagsHasThem =
    (entries : Entries) (row : Entry) (tags : ListedTags)
    → location_at row.1 ≡ Ok (locations.Tags tags)
    → entry_tags entries row ≡ tags.sources ++ tags.destinations

-- a Set touches exactly the entry that serves its key
abbrev pub ASetTouchesTheServingEntry : Type 0
ASetTouchesTheServingEntry =
    (entries : Entries) (key : Key) (value : List ℕ) (entry : Entry) → IsInOrder entries
    → Contains (touched_entries entries (Set key value)) entry ↔ Serves entries key entry

-- a Clear of a range that is not empty touches exactly the entries that serve some key of it
abbrev pub AClearTouchesTheServingEntries : Type 0
AClearTouchesTheServingEntries =
    (entries : Entries) (range : Range) (entry : Entry)
    → IsInOrder entries → IsTrue (is_key_below range.begin range.end)
    → Contains (touched_entries entries (Clear range)) entry ↔ ServesSome entries range entry
