-- The table of the servers' tags that is kept beside the entries, and what brings it up to date.
use Rattle.std.specs.Prelude.{◌≡◌, ℕ, ◌≤◌, List, ◌++◌, length, true, false, ◌&&◌, Option, ◌⊎◌}
use Rattle.std.specs.Prelude.{if◌then◌else◌, flat_map, option_map, option_to_list, bytes_eq}
use Rattle.std.specs.Option.{is_some, option_flatten}
use Rattle.std.specs.Result.{result_ok}
use Rattle.std.specs.Map.{lookup}
use Rattle.system_keys.specs.declared.tag.Tag.{Tag}
use Rattle.system_keys.specs.Keys.{Key}
use Rattle.system_keys.specs.Families.{server_tag_family, server_id_length}
use Rattle.system_keys.specs.Rows.{Id, tag_at}
use Rattle.model.specs.Metadata.{Entries, server_tags, sorted_tags}
use Rattle.metadata.specs.Overwrites.{is_listed, has_entry}
use Rattle.metadata.specs.CachedTags.{Names, Values, names_server}

-- servers, each with its tag if it has one
abbrev pub ServerTags : Type 0
ServerTags = List (Id × Option Tag)

-- What contracts see of a table of servers: the servers with their tags, and how many more of them
-- it takes without an allocation.
pub record TaggedServers : Type 0 where
  pub tags : ServerTags
  pub room : ℕ

-- what stands beside a server, if it is listed
abbrev pub server_at : ServerTags → Id → Option (Option Tag)
server_at servers id = lookup (bytes_eq id) servers

-- the tag that a serverTag value gives
abbrev pub decoded_tag : List ℕ → Option Tag
decoded_tag value = result_ok (tag_at value)

-- what the serverTag row of a server gives, if there is such a row
abbrev pub server_by : Values → Id → Option (Option Tag)
server_by values id = option_map decoded_tag (values (server_tag_family.prefix ++ id))

-- each server that has a serverTag row is listed, with the tag that the row gives, and no other is
abbrev pub AreServers : ServerTags → Values → Type 0
AreServers servers values =
    (id : Id) → length id ≡ server_id_length → server_at servers id ≡ server_by values id

-- the tag listed for a server, if it has one
abbrev pub tag_listed : ServerTags → Id → List Tag
tag_listed servers id = option_to_list (option_flatten (server_at servers id))

-- the tags of a keyServers row by what it names, in the order of its value: those listed for the
-- servers that it names, or those that it lists itself
abbrev pub gathered : ServerTags → Names → List Tag
gathered servers names = flat_map (tag_listed servers) names.servers ++ names.tags

-- the tags of a keyServers row by what it names, strictly increasing
unfoldable pub tags_named : ServerTags → Names → List Tag
tags_named servers names = sorted_tags (gathered servers names)

-- The tag listed for a server is that which the entries give it. A server may be listed without a
-- tag though it has no serverTag row.
abbrev pub GiveTags : ServerTags → Entries → Type 0
GiveTags servers entries =
    (id : Id) → length id ≡ server_id_length
    → tag_listed servers id ≡ server_tags entries id

-- ---- serverTag rows that change

-- the keys of the serverTag rows among some entries
abbrev pub AreServerKeys : List Key → Entries → Type 0
AreServerKeys keys entries =
    (key : Key) → is_listed keys key ≡ (names_server key && has_entry entries key)

-- the servers after the serverTag rows at some keys are read anew
abbrev pub AreRefreshed : (keys : List Key) (values : Values) (old new : ServerTags) → Type 0
AreRefreshed keys values old new =
    (id : Id) → length id ≡ server_id_length
    → server_at new id
    ≡ (if is_listed keys (server_tag_family.prefix ++ id)
    then server_by values id else server_at old id)

-- The rows at these keys can be read anew without an allocation: the table takes as many servers
-- more, or lists each server that has a row at one of the keys.
abbrev pub HasPlaces : TaggedServers → (keys : List Key) → Values → Type 0
HasPlaces table keys values =
    (length keys ≤ table.room)
    ⊎ ((id : Id) → length id ≡ server_id_length
    → is_listed keys (server_tag_family.prefix ++ id) ≡ true
    → is_some (server_by values id) ≡ true → is_some (server_at table.tags id) ≡ true)

-- Only the serverTag rows at these keys have changed, and each is there now.
pub record ServersTakeBack (keys : List Key) (before now : Values) : Type 0 where
  pub there : (key : Key) → is_listed keys key ≡ true → is_some (now key) ≡ true
  pub others :
      (key : Key) → names_server key ≡ true → is_listed keys key ≡ false → before key ≡ now key
