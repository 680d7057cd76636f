-- Statements of private copies.
use Rattle.std.specs.Prelude.{◌≡◌, ◌↔◌, ℕ, List, ◌∷◌, ◌++◌, length, IsFalse, Option, Some, None}
use Rattle.std.specs.Prelude.{Ok}
use Rattle.system_keys.specs.declared.change.Change.TheVariants.{Set, Clear}
use Rattle.system_keys.specs.declared.tag.Tag.{Tag}
use Rattle.system_keys.specs.Keys.{Key, Range}
use Rattle.system_keys.specs.Families.{server_keys_family, server_tag_family, server_id_length}
use Rattle.system_keys.specs.Families.{slash, is_in}
use Rattle.system_keys.specs.Rows.{Id, tag_at}
use Rattle.model.specs.declared.outcome.PrivateCopy.{PrivateCopy}
use Rattle.model.specs.Metadata.{Entries, entry_value}
use Rattle.model.specs.PrivateCopies.{private_copy}

-- the copy is the Set with one more `\xff` before its key
pub record IsCopyOf (key : Key) (value : List ℕ) (copy : PrivateCopy) : Type 0 where
  pub key_is : copy.key ≡ 255 ∷ key
  pub value_is : copy.value ≡ value

-- what stands at a serverTag row's key is a value that gives the tag
pub record GivesTag (found : Option (List ℕ)) (tag : Tag) : Type 0 where
  pub value : List ℕ
  pub there : found ≡ Some value
  pub decodes : tag_at value ≡ Ok tag

-- the key of a serverKeys row: its prefix, a server id, a slash, and any bytes
abbrev pub server_keys_key : Id → Key → Key
server_keys_key id rest = server_keys_family.prefix ++ (id ++ (slash ++ rest))

-- a Set of a serverKeys row has exactly the copy for the server that its key names, by the
-- serverTag row of that server, and none if there is no such row
abbrev pub ServerKeysGoToTheirServer : Type 0
ServerKeysGoToTheirServer =
    (entries : Entries) (id : Id) (rest value : List ℕ) (copy : PrivateCopy)
    → length id ≡ server_id_length
    → (private_copy entries (Set (server_keys_key id rest) value) ≡ Some copy)
    ↔ (IsCopyOf (server_keys_key id rest) value copy
    × GivesTag (entry_value entries (server_tag_family.prefix ++ id)) copy.tag)

-- a Set of a serverTag row has exactly the copy for the server with the tag that it sets
abbrev pub ServerTagsGoToTheirServer : Type 0
ServerTagsGoToTheirServer =
    (entries : Entries) (id : Id) (value : List ℕ) (copy : PrivateCopy)
    → length id ≡ server_id_length
    → (private_copy entries (Set (server_tag_family.prefix ++ id) value) ≡ Some copy)
    ↔ (IsCopyOf (server_tag_family.prefix ++ id) value copy × (tag_at value ≡ Ok copy.tag))

-- a Set of any other key has no copy
abbrev pub OtherSetsHaveNoCopy : Type 0
OtherSetsHaveNoCopy =
    (entries : Entries) (key : Key) (value : List ℕ)
    → IsFalse (is_in server_keys_family key) → IsFalse (is_in server_tag_family key)
    → private_copy entries (Set key value) ≡ None

-- a Clear has no copy
abbrev pub ClearsHaveNoCopy : Type 0
ClearsHaveNoCopy =
    (entries : Entries) (range : Range) → private_copy entries (Clear range) ≡ None
