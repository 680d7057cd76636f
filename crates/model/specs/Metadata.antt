-- The metadata: the kept entries as the fold of a journal, the lock, and the tags of a change.
-- Release 7.1: the fold, `ApplyMetadataMutation.cpp`, applyMetadataMutations, which
-- `CommitProxyServer.actor.cpp`, applyMetadataEffect, calls for the transactions of other proxies;
-- the tags, assignMutationsToStorageServers of the same file. What differs is marked *profile*.
use Rattle.std.specs.Prelude.{ℕ, List, [], ◌∷◌, ◌++◌, length, drop, map, Bool, true, false, ◌&&◌}
use Rattle.std.specs.Prelude.{◌||◌, not, if◌then◌else◌, Option, Some, None, Result, Ok, Err, fold}
use Rattle.std.specs.Prelude.{option_to_list, filter, flat_map, Contains, IsTrue}
use Rattle.std.specs.List.{list_all, last_or}
use Rattle.std.specs.List.Sorted.{IsStrictlySortedBy}
use Rattle.std.specs.Map.{lookup, keys_of}
use Rattle.std.specs.BTreeMap.{insert_entry, is_at}
use Rattle.std.specs.BTreeSet.{insert_key}
use Rattle.std.specs.Ordering.{nat_cmp}
use Rattle.std.specs.Cmp.Lexicographic.{slice_cmp}
use Rattle.system_keys.specs.declared.change.Change.{Change}
use Rattle.system_keys.specs.declared.change.Change.TheVariants.{Set, Clear}
use Rattle.system_keys.specs.declared.location.Location.{Location}
use Rattle.system_keys.specs.declared.location.Location.TheVariants.{Servers, Tags}
use Rattle.system_keys.specs.declared.refusal.RowFault.{RowFault}
use Rattle.system_keys.specs.declared.tag.Tag.{Tag}
use Rattle.system_keys.specs.Keys.{Key, Range, is_key_below, is_key_up_to, holds}
use Rattle.system_keys.specs.Families.{key_servers_family, server_tag_family}
use Rattle.system_keys.specs.Families.{metadata_version_family, is_in, is_kept_key}
use Rattle.system_keys.specs.Rows.{Id, tag_at}
use Rattle.system_keys.specs.ListedTags.{tag_cmp}
use Rattle.system_keys.specs.Locations.{location_at}
use Rattle.model.specs.Numbers.{Version}
use Rattle.model.specs.declared.journal.StateTxn.{StateTxn}
use Rattle.model.specs.declared.journal.JournalRow.{JournalRow}
use Rattle.model.specs.declared.routing.Route.{Route}
use Rattle.model.specs.declared.routing.Routing.{Routing}
use Rattle.model.specs.Transactions.{locked_key}
use Rattle.model.specs.Verdicts.{is_committed}

-- ---- the fold

-- an entry: a key and its value
abbrev pub Entry : Type 0
Entry = Key × List ℕ

-- the kept entries, in the order of their keys
abbrev pub Entries : Type 0
Entries = List Entry

-- the keys of the entries are strictly increasing, so that no key has two entries
abbrev pub IsInOrder : Entries → Type 0
IsInOrder entries = IsStrictlySortedBy (slice_cmp nat_cmp) (keys_of entries)

-- each entry has a kept key
abbrev pub AreKept : Entries → Type 0
AreKept entries = (entry : Entry) → Contains entries entry → IsTrue (is_kept_key entry.0)

-- the value at a key, if the key has an entry
abbrev pub entry_value : Entries → Key → Option (List ℕ)
entry_value entries key = lookup (is_at (slice_cmp nat_cmp key)) entries

-- the value is present and not empty; an empty value is no lock
abbrev pub is_filled : Option (List ℕ) → Bool
is_filled None = false
is_filled (Some []) = false
is_filled (Some (byte ∷ bytes)) = true

-- the entry of `\xff/dbLocked` is present and not empty
abbrev pub is_locked : Entries → Bool
is_locked entries = is_filled (entry_value entries locked_key)

-- The entries after a change. A Set of a kept key puts its value, a Clear removes the entries of
-- its range, and every other entry is unchanged.
abbrev pub after_change : Entries → Change → Entries
after_change entries (Set key value) =
    if is_kept_key key then insert_entry (slice_cmp nat_cmp) entries key value else entries
after_change entries (Clear range) =
    filter (λ (entry : Entry). not (holds range entry.0)) entries

-- the entries after some changes, one after another
abbrev pub after_changes : Entries → List Change → Entries
after_changes entries changes = fold after_change entries changes

-- A proxy applies the state transaction: every resolver committed it, and it is lock aware or the
-- database is not locked. *Profile*: a proxy tests the lock for the transactions of other proxies
-- too.
abbrev pub is_applied : (locked : Bool) → StateTxn → Bool
is_applied locked t = list_all is_committed t.verdicts && (t.lock_aware || not locked)

-- the entries after a state transaction, which changes nothing if it is not applied
abbrev pub after_state : (locked : Bool) → Entries → StateTxn → Entries
after_state locked entries t =
    if is_applied locked t then after_changes entries t.mutations else entries

-- the entries after one row of a journal; the lock is read once, before its first transaction
abbrev pub after_journal_row : Entries → JournalRow → Entries
after_journal_row entries row = fold (after_state (is_locked entries)) entries row.states

-- the changes of a journal row that are applied, in order
abbrev pub applied_changes : (locked : Bool) → JournalRow → List Change
applied_changes locked row =
    flat_map (λ (t : StateTxn). t.mutations) (filter (is_applied locked) row.states)

-- the metadata of a journal: its fold, from no entries
unfoldable pub metadata : List JournalRow → Entries
metadata journal = fold after_journal_row [] journal

-- ---- the tags

-- the entry is a keyServers row, which names the storage servers of a range of keys, or lists their
-- tags
abbrev pub is_key_servers : Entry → Bool
is_key_servers entry = is_in key_servers_family entry.0

-- the entry with the prefix `\xff/keyServers/` taken off its key
abbrev pub behind_prefix : Entry → Entry
behind_prefix entry = (drop (length key_servers_family.prefix) entry.0, entry.1)

-- the keyServers rows in the order of keys, each without the prefix of its key
abbrev pub key_servers_entries : Entries → Entries
key_servers_entries entries = map behind_prefix (filter is_key_servers entries)

-- the entry is at or before the key
abbrev pub is_entry_up_to : Key → Entry → Bool
is_entry_up_to key entry = is_key_up_to entry.0 key

-- The greatest of these entries at or before the key; they are in the order of keys.
-- *Profile*: it may be missing.
abbrev pub serving_entry : Entries → Key → Option Entry
serving_entry entries key = last_or None (filter (is_entry_up_to key) entries)

-- the entry is after the begin of the range, and before its end
abbrev pub is_entry_inside : Range → Entry → Bool
is_entry_inside range entry =
    is_key_below range.begin entry.0 && is_key_below entry.0 range.end

-- The entries that a change touches. A Set touches the one that serves its key. A Clear touches the
-- one that serves its begin, and each entry after its begin and before its end.
-- *Profile*: a key that no entry serves adds none.
abbrev pub touched_entries : Entries → Change → Entries
touched_entries entries (Set key value) = option_to_list (serving_entry entries key)
touched_entries entries (Clear range) =
    option_to_list (serving_entry entries range.begin) ++ filter (is_entry_inside range) entries

-- The sources and then the destinations of a value that names servers. One that lists tags names
-- none, nor does one that does not decode.
abbrev pub all_servers : Result Location RowFault → List Id
all_servers (Ok (Servers servers)) = servers.sources ++ servers.destinations
all_servers (Ok (Tags tags)) = []
all_servers (Err fault) = []

-- The sources and the destinations of a keyServers value.
-- *Profile*: a value that does not decode names none.
abbrev pub servers_of : List ℕ → List Id
servers_of value = all_servers (location_at value)

-- The sources and then the destinations of a value that lists tags. One that names servers lists
-- none, nor does one that does not decode.
abbrev pub all_listed : Result Location RowFault → List Tag
all_listed (Ok (Servers servers)) = []
all_listed (Ok (Tags tags)) = tags.sources ++ tags.destinations
all_listed (Err fault) = []

-- The tags that a keyServers value lists itself.
-- *Profile*: that a value may list tags, which are taken as they stand, whatever tags servers have;
-- one that does not decode lists none.
abbrev pub listed_tags : List ℕ → List Tag
listed_tags value = all_listed (location_at value)

-- the tag of a decoded value, and none if it does not decode
abbrev pub one_tag : Result Tag RowFault → List Tag
one_tag (Ok tag) = tag ∷ []
one_tag (Err fault) = []

-- The tag of a serverTag value, and none if the value is missing.
-- *Profile*: a value that does not decode gives none.
abbrev pub tag_of : Option (List ℕ) → List Tag
tag_of None = []
tag_of (Some value) = one_tag (tag_at value)

-- The tag of a server. *Profile*: a server without a serverTag row has none.
unfoldable pub server_tags : Entries → Id → List Tag
server_tags entries id = tag_of (entry_value entries (server_tag_family.prefix ++ id))

-- the tags of a keyServers row, in the order of its value: those of the servers that it names, or
-- those that it lists, whatever tags servers have
unfoldable pub entry_tags : Entries → Entry → List Tag
entry_tags entries entry =
    flat_map (server_tags entries) (servers_of entry.1) ++ listed_tags entry.1

-- The tags of a list, strictly increasing. *Profile*: the order.
abbrev pub sorted_tags : List Tag → List Tag
sorted_tags tags = fold (insert_key tag_cmp) [] tags

-- The tags of a change: those of the keyServers rows that it touches.
-- *Profile*: the order; and a key without a row and a server without a tag add none.
unfoldable pub tags : Entries → Change → List Tag
tags entries change =
    let touched = touched_entries (key_servers_entries entries) change in
    sorted_tags (flat_map (entry_tags entries) touched)

-- ---- the routing

-- the tags of a key: those of a Set of it, whatever its value
abbrev pub tags_of_key : Entries → Key → List Tag
tags_of_key entries key = tags entries (Set key [])

-- a keyServers row, with the tags of its key
abbrev pub route_of : Entries → Entry → Route
route_of entries entry = record { key = entry.0; tags = tags_of_key entries entry.0 }

-- The routing that the metadata gives at a version: the lock, the value of `\xff/metadataVersion`
-- or None, and a route for each keyServers row in the order of keys (*profile*).
unfoldable pub routing : Version → Entries → Routing
routing version entries =
    record {
      version = version;
      locked = is_locked entries;
      metadata_version = entry_value entries metadata_version_family.prefix;
      routes = map (route_of entries) (key_servers_entries entries);
    }
