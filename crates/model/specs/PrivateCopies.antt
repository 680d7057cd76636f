-- The private copies of changes, by which storage servers learn which keys they have, and their own
-- tags. Release 7.1, `ApplyMetadataMutation.cpp`, checkSetServerKeysPrefix and
-- checkSetServerTagsPrefix; what differs is marked *profile*.
use Rattle.std.specs.Prelude.{ℕ, List, [], ◌∷◌, length, take, drop, Option, Some, None}
use Rattle.system_keys.specs.declared.change.Change.{Change}
use Rattle.system_keys.specs.declared.change.Change.TheVariants.{Set, Clear}
use Rattle.system_keys.specs.declared.kind.RowKind.{RowKind}
use Rattle.system_keys.specs.declared.kind.RowKind.TheVariants as kinds
use Rattle.system_keys.specs.declared.tag.Tag.{Tag}
use Rattle.system_keys.specs.Keys.{Key}
use Rattle.system_keys.specs.Families.{server_keys_family, server_id_length, kind_of}
use Rattle.system_keys.specs.Rows.{Id, tag_at}
use Rattle.model.specs.declared.outcome.PrivateCopy.{PrivateCopy}
use Rattle.model.specs.Metadata.{Entries, one_tag, server_tags}

-- the server that the key of a serverKeys row names: the 16 bytes after the prefix
abbrev pub named_server : Key → Id
named_server key = take server_id_length (drop (length server_keys_family.prefix) key)

-- The tags of the server that a Set of a key of this kind concerns, at most one. A serverKeys row
-- concerns the server that its key names, a serverTag row the server whose tag it sets: that tag.
-- *Profile*: no other row concerns a server.
abbrev pub concerned_tags : Entries → RowKind → Key → List ℕ → List Tag
concerned_tags entries kinds.ServerKeys key value = server_tags entries (named_server key)
concerned_tags entries kinds.ServerTag key value = one_tag (tag_at value)
concerned_tags entries _ key value = []

-- The copy of a Set for the server with the tag: one more `\xff` stands before its key.
-- *Profile*: without a tag there is no copy.
abbrev pub copy_for : List Tag → Key → List ℕ → Option PrivateCopy
copy_for [] key value = None
copy_for (tag ∷ tags) key value = Some (record { key = 255 ∷ key; value = value; tag = tag })

-- The private copy of a change, by the metadata after the batch. *Profile*: a Clear has none, and
-- the tag of a server is that after the whole batch.
unfoldable pub private_copy : Entries → Change → Option PrivateCopy
private_copy entries (Set key value) =
    copy_for (concerned_tags entries (kind_of key) key value) key value
private_copy entries (Clear range) = None
