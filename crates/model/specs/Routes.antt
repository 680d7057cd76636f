-- Which keyServers row serves a key, and which tags a change has. Release 7.1,
-- `CommitProxyServer.actor.cpp`, assignMutationsToStorageServers. Both are stated as predicates
-- here; `serving_entry_law` and `tags_of_change_law` say that `serving_entry` and `tags` of
-- Metadata.antt agree with them.
use Rattle.std.specs.Prelude.{◌⊎◌, Contains, IsTrue}
use Rattle.system_keys.specs.declared.change.Change.{Change}
use Rattle.system_keys.specs.declared.tag.Tag.{Tag}
use Rattle.system_keys.specs.Keys.{Key, Range, is_key_up_to, holds}
use Rattle.system_keys.specs.Rows.{Id}
use Rattle.model.specs.Metadata.{Entry, Entries, touched_entries, key_servers_entries}
use Rattle.model.specs.Metadata.{servers_of, server_tags, listed_tags}

-- of these entries, this one serves the key: it is at or before the key, and no other such entry
-- has a greater key
pub record Serves (entries : Entries) (key : Key) (entry : Entry) : Type 0 where
  pub there : Contains entries entry
  pub up_to : IsTrue (is_key_up_to entry.0 key)
  pub greatest :
      (other : Entry) → Contains entries other → IsTrue (is_key_up_to other.0 key)
      → IsTrue (is_key_up_to other.0 entry.0)

-- of these entries, this one serves some key of the range
pub record ServesSome (entries : Entries) (range : Range) (entry : Entry) : Type 0 where
  pub key : Key
  pub inside : IsTrue (holds range key)
  pub serves : Serves entries key entry

-- the row names a server that has the tag
pub record NamesServerOf (entries : Entries) (row : Entry) (tag : Tag) : Type 0 where
  pub server : Id
  pub named : Contains (servers_of row.1) server
  pub tagged : Contains (server_tags entries server) tag

-- the change has the tag: it touches a keyServers row that names a server with this tag, or that
-- lists the tag itself
pub record HasTag (entries : Entries) (change : Change) (tag : Tag) : Type 0 where
  pub entry : Entry
  pub touched : Contains (touched_entries (key_servers_entries entries) change) entry
  pub given : NamesServerOf entries entry tag ⊎ Contains (listed_tags entry.1) tag
