-- What the values of keyServers rows name, from which their tags are gathered when they are read.
use Rattle.std.specs.Prelude.{◌≡◌, ℕ, List, [], ◌++◌, Bool, ◌&&◌, Option, None, Some}
use Rattle.std.specs.Prelude.{if◌then◌else◌, flat_map, nat_eq, Result, Ok}
use Rattle.std.specs.List.{list_any, starts_with}
use Rattle.system_keys.specs.declared.location.Location.{Location}
use Rattle.system_keys.specs.declared.refusal.RowFault.{RowFault}
use Rattle.system_keys.specs.declared.tag.Tag.{Tag}
use Rattle.system_keys.specs.Keys.{Key}
use Rattle.system_keys.specs.Families.{server_tag_family, is_kept_key}
use Rattle.system_keys.specs.Locations.{location_at}
use Rattle.system_keys.specs.Rows.{Id}
use Rattle.model.specs.Metadata.{Entries, entry_value, is_filled}
use Rattle.model.specs.Metadata.{all_servers, all_listed, servers_of, listed_tags, tag_of}
use Rattle.model.specs.Metadata.{sorted_tags}
use Rattle.metadata.specs.Overwrites.{is_listed}

-- the value at each key
abbrev pub Values : Type 0
Values = Key → Option (List ℕ)

-- the tag of a server, by the values at the keys
abbrev pub tag_by : Values → Id → List Tag
tag_by values id = tag_of (values (server_tag_family.prefix ++ id))

-- the tags of a keyServers value, strictly increasing: those of the servers that it names, or those
-- that it lists
unfoldable pub tags_by : Values → List ℕ → List Tag
tags_by values value =
    sorted_tags (flat_map (tag_by values) (servers_of value) ++ listed_tags value)

-- ---- what a row names

-- what the value of a keyServers row names: servers, or tags that it lists itself
pub record Names : Type 0 where
  pub servers : List Id
  pub tags : List Tag

-- what a value that was read names; one that does not decode names nothing
abbrev pub names_of : Result Location RowFault → Names
names_of read = record { servers = all_servers read; tags = all_listed read }

-- what a keyServers value names
abbrev pub names_by : List ℕ → Names
names_by value = names_of (location_at value)

-- what a location names, if there is one
abbrev pub names_in : Option Location → Names
names_in (Some location) = names_of (Ok location)
names_in None = record { servers = []; tags = [] }

-- ---- entries that may be removed without changing any tag

-- the key begins like those of serverTag rows
abbrev pub names_server : Key → Bool
names_server key = starts_with nat_eq key server_tag_family.prefix

-- the entry at the key may give a server a tag
abbrev pub may_tag : Entries → Key → Bool
may_tag entries key = names_server key && is_filled (entry_value entries key)

-- one of the keys has such an entry
abbrev pub may_tag_some : Entries → List Key → Bool
may_tag_some entries keys = list_any (may_tag entries) keys

-- Of the entries at these keys, each that could give a server a tag has an empty value, which gives
-- none.
abbrev pub IsBlanked : (keys : List Key) (before after : Entries) → Type 0
IsBlanked keys before after =
    (key : Key)
    → entry_value after key
    ≡ (if (names_server key && is_kept_key key) && is_listed keys key
    then Some [] else entry_value before key)
