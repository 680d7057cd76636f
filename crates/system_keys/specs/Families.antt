-- The families of rows that the metadata keeps, the family of server keys, which it does not keep, and the
-- kind of each key (release 7.1; that no other family is kept is this project's profile).
use Rattle.std.specs.Prelude.{ℕ, ◌+◌, List, [], ◌∷◌, ◌++◌, length, drop, codes, nat_eq, Bool, true}
use Rattle.std.specs.Prelude.{false, ◌&&◌, ◌||◌, not, if◌then◌else◌}
use Rattle.std.specs.List.{starts_with}
use Rattle.std.specs.Cmp.Lexicographic.{pointwise}
use Rattle.system_keys.specs.declared.kind.RowKind.{RowKind}
use Rattle.system_keys.specs.declared.kind.RowKind.TheVariants as kinds
use Rattle.system_keys.specs.Keys.{Key}

-- what follows the prefix of a family in its keys
pub data Following : Type 0 where
  Nothing : Following
  OneServerId : Following
  OneServerIdASlashAndAnyBytes : Following
  AnyBytes : Following

-- a family of rows: its kind, how its keys begin, and what follows
pub record Family : Type 0 where
  pub kind : RowKind
  pub prefix : Key
  pub following : Following

-- every system key starts with `\xff`
abbrev pub system_prefix : Key
system_prefix = 255 ∷ []

-- the system keys that are no metadata start with `\xff\x02`
abbrev pub non_metadata_prefix : Key
non_metadata_prefix = 255 ∷ 2 ∷ []

-- which storage servers have the keys from this one on, or the tags of those that have them
abbrev pub key_servers_family : Family
key_servers_family =
    record { kind = kinds.KeyServers; prefix = 255 ∷ codes "/keyServers/"; following = AnyBytes }

-- the tag of a storage server
abbrev pub server_tag_family : Family
server_tag_family =
    record { kind = kinds.ServerTag; prefix = 255 ∷ codes "/serverTag/"; following = OneServerId }

-- the lock of the database
abbrev pub locked_family : Family
locked_family =
    record { kind = kinds.DatabaseLocked; prefix = 255 ∷ codes "/dbLocked"; following = Nothing }

-- the version of the metadata, as clients read it
abbrev pub metadata_version_family : Family
metadata_version_family =
    record {
      kind = kinds.MetadataVersion;
      prefix = 255 ∷ codes "/metadataVersion";
      following = Nothing;
    }

-- which keys a storage server has: a server id, a slash, and the key from which on it has them (this
-- project's profile)
abbrev pub server_keys_family : Family
server_keys_family =
    record {
      kind = kinds.ServerKeys;
      prefix = 255 ∷ codes "/serverKeys/";
      following = OneServerIdASlashAndAnyBytes;
    }

-- the families that the metadata keeps, and no others
abbrev pub kept_families : List Family
kept_families =
    key_servers_family ∷ server_tag_family ∷ locked_family ∷ metadata_version_family ∷ []

-- all families
abbrev pub families : List Family
families = kept_families ++ server_keys_family ∷ []

-- the length of a server id (this project's profile)
abbrev pub server_id_length : ℕ
server_id_length = 16

-- what stands between a server id and the bytes that follow it
abbrev pub slash : Key
slash = codes "/"

-- the key is the prefix and what may follow it
abbrev pub is_prefixed : Following → Key → Key → Bool
is_prefixed Nothing prefix key = pointwise nat_eq key prefix
is_prefixed OneServerId prefix key =
    starts_with nat_eq key prefix && nat_eq (length key) (length prefix + server_id_length)
is_prefixed OneServerIdASlashAndAnyBytes prefix key =
    starts_with nat_eq key prefix
    && starts_with nat_eq (drop (length prefix + server_id_length) key) slash
is_prefixed AnyBytes prefix key = starts_with nat_eq key prefix

-- the key is of the family
abbrev pub is_in : Family → Key → Bool
is_in family key = is_prefixed family.following family.prefix key

-- the kind of a key among these families, and otherwise by its first bytes
abbrev pub kind_among : List Family → Key → RowKind
kind_among [] key =
    if starts_with nat_eq key non_metadata_prefix then kinds.NonMetadata
    else if starts_with nat_eq key system_prefix then kinds.OtherSystem
    else kinds.Normal
kind_among (family ∷ families) key =
    if is_in family key then family.kind else kind_among families key

-- the kind of a key
unfoldable pub kind_of : Key → RowKind
kind_of key = kind_among families key

-- rows of this kind are kept by the metadata
abbrev pub is_kept_kind : RowKind → Bool
is_kept_kind kinds.KeyServers = true
is_kept_kind kinds.ServerTag = true
is_kept_kind kinds.DatabaseLocked = true
is_kept_kind kinds.MetadataVersion = true
is_kept_kind kinds.ServerKeys = false
is_kept_kind kinds.OtherSystem = false
is_kept_kind kinds.NonMetadata = false
is_kept_kind kinds.Normal = false

-- the metadata keeps a row at this key
abbrev pub is_kept_key : Key → Bool
is_kept_key key = is_kept_kind (kind_of key)

-- some of the families has the key
abbrev pub is_in_some : List Family → Key → Bool
is_in_some [] key = false
is_in_some (family ∷ families) key = is_in family key || is_in_some families key

-- what makes a key of each kind, said of the kind alone
abbrev pub is_of_kind : RowKind → Key → Bool
is_of_kind kinds.KeyServers key = is_in key_servers_family key
is_of_kind kinds.ServerTag key = is_in server_tag_family key
is_of_kind kinds.DatabaseLocked key = is_in locked_family key
is_of_kind kinds.MetadataVersion key = is_in metadata_version_family key
is_of_kind kinds.ServerKeys key = is_in server_keys_family key
is_of_kind kinds.OtherSystem key =
    starts_with nat_eq key system_prefix
    && not (starts_with nat_eq key non_metadata_prefix)
    && not (is_in_some families key)
is_of_kind kinds.NonMetadata key = starts_with nat_eq key non_metadata_prefix
is_of_kind kinds.Normal key = not (starts_with nat_eq key system_prefix)
