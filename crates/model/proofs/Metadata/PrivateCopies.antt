-- Which Sets have a private copy: of the two kinds of keys, as they are put together.
use Rattle.std.proofs.Common.{◌≡◌, refl, sym, ap, ◌∙◌, ℕ, ◌+◌, List, ◌∷◌, ◌++◌, length, take, drop, true, false, Option, Some, None, Result, Ok, Err, length-append, eq-eqb}
use Rattle.std.specs.Prelude.{nat_eq}
use Rattle.std.specs.List.{starts_with}
use Rattle.std.proofs.Math.Seq.{take-append_seam, drop-append_seam}
use Rattle.system_keys.specs.declared.change.Change.TheVariants.{Set}
use Rattle.system_keys.specs.declared.kind.RowKind.{RowKind}
use Rattle.system_keys.specs.declared.kind.RowKind.TheVariants as kinds
use Rattle.system_keys.specs.declared.refusal.RowFault.{RowFault}
use Rattle.system_keys.specs.declared.tag.Tag.{Tag}
use Rattle.system_keys.specs.Keys.{Key}
use Rattle.system_keys.specs.Families.{server_tag_family, server_id_length, slash, kind_of}
use Rattle.system_keys.specs.Rows.{Id, tag_at}
use Rattle.system_keys.proofs.KindLaws.{kind_from, kind_both_ways}
use Rattle.model.specs.declared.outcome.PrivateCopy.{PrivateCopy}
use Rattle.model.specs.Metadata.{Entries, entry_value, one_tag, tag_of, server_tags}
use Rattle.model.specs.PrivateCopies.{named_server, concerned_tags, copy_for, private_copy}
use Rattle.model.specs.Laws.PrivateCopies.{IsCopyOf, GivesTag, server_keys_key, ServerKeysGoToTheirServer, ServerTagsGoToTheirServer, OtherSetsHaveNoCopy, ClearsHaveNoCopy}

-- ---- the copy for a tag

abbrev made_copy : Key → List ℕ → Tag → PrivateCopy
made_copy key value tag = record { key = 255 ∷ key; value = value; tag = tag }

abbrev copy_or : PrivateCopy → Option PrivateCopy → PrivateCopy
copy_or copy None = copy
copy_or copy (Some found) = found

-- a copy that is made for the tag of a result
copy_parts : (r : Result Tag RowFault) (key : Key) (value : List ℕ) (copy : PrivateCopy) → copy_for (one_tag r) key value ≡ Some copy → IsCopyOf key value copy × (r ≡ Ok copy.tag)
copy_parts (Ok tag) key value copy h =
    let same : made_copy key value tag ≡ copy = ap (copy_or copy) h in
    (record { key_is = ap (λ (c : PrivateCopy). c.key) (sym same); value_is = ap (λ (c : PrivateCopy). c.value) (sym same) }, ap (λ (c : PrivateCopy). let found : Result Tag RowFault = Ok c.tag in found) same)
copy_parts (Err fault) key value copy h = absurd (cc)

copy_whole : (r : Result Tag RowFault) (key : Key) (value : List ℕ) (copy : PrivateCopy) → IsCopyOf key value copy → r ≡ Ok copy.tag → copy_for (one_tag r) key value ≡ Some copy
copy_whole r key value copy is tag =
    let same : made_copy key value copy.tag ≡ copy = λ i. record { key = sym is.key_is i; value = sym is.value_is i; tag = copy.tag } in
    ap (λ (r : Result Tag RowFault). copy_for (one_tag r) key value) tag ∙ ap Some same

-- the same by what stands at the key of a serverTag row
row_parts : (found : Option (List ℕ)) (key : Key) (value : List ℕ) (copy : PrivateCopy) → copy_for (tag_of found) key value ≡ Some copy → IsCopyOf key value copy × GivesTag found copy.tag
row_parts None key value copy h = absurd (cc)
row_parts (Some row) key value copy h =
    let parts = copy_parts (tag_at row) key value copy h in
    (parts.0, record { value = row; there = refl; decodes = parts.1 })

row_whole : (found : Option (List ℕ)) (key : Key) (value : List ℕ) (copy : PrivateCopy) → IsCopyOf key value copy → GivesTag found copy.tag → copy_for (tag_of found) key value ≡ Some copy
row_whole found key value copy is gives =
    ap (λ (row : Option (List ℕ)). copy_for (tag_of row) key value) gives.there ∙ copy_whole (tag_at gives.value) key value copy is gives.decodes

-- ---- a serverKeys row

keys_named : (id : Id) (rest : List ℕ) → length id ≡ server_id_length → named_server (server_keys_key id rest) ≡ id
keys_named id rest size = ap (λ (n : ℕ). take n (id ++ (slash ++ rest))) (sym size) ∙ take-append_seam id (slash ++ rest)

keys_end : (id : Id) (rest : List ℕ) → length id ≡ server_id_length → starts_with nat_eq (drop 16 (id ++ (slash ++ rest))) slash ≡ true
keys_end id rest size =
    ap (λ (n : ℕ). starts_with nat_eq (drop n (id ++ (slash ++ rest))) slash) (sym size)
    ∙ ap (λ (behind : List ℕ). starts_with nat_eq behind slash) (drop-append_seam id (slash ++ rest))

keys_kind : (id : Id) (rest : List ℕ) → length id ≡ server_id_length → kind_of (server_keys_key id rest) ≡ kinds.ServerKeys
keys_kind id rest size = kind_from kinds.ServerKeys (server_keys_key id rest) (keys_end id rest size)

keys_copy : (entries : Entries) (id : Id) (rest value : List ℕ) → length id ≡ server_id_length
    → private_copy entries (Set (server_keys_key id rest) value) ≡ copy_for (tag_of (entry_value entries (server_tag_family.prefix ++ id))) (server_keys_key id rest) value
unfolding private_copy server_tags
keys_copy entries id rest value size =
    let key = server_keys_key id rest in
    ap (λ (kind : RowKind). copy_for (concerned_tags entries kind key value) key value) (keys_kind id rest size)
    ∙ ap (λ (server : Id). copy_for (server_tags entries server) key value) (keys_named id rest size)

pub keys_copy_is : ServerKeysGoToTheirServer
keys_copy_is entries id rest value copy size =
    let key = server_keys_key id rest in
    let found = entry_value entries (server_tag_family.prefix ++ id) in
    let made = keys_copy entries id rest value size in
    (λ h. row_parts found key value copy (sym made ∙ h), λ parts. made ∙ row_whole found key value copy parts.0 parts.1)

-- ---- a serverTag row

tag_row_kind : (id : Id) → length id ≡ server_id_length → kind_of (server_tag_family.prefix ++ id) ≡ kinds.ServerTag
tag_row_kind id size =
    kind_from kinds.ServerTag (server_tag_family.prefix ++ id)
    (eq-eqb (length (server_tag_family.prefix ++ id)) 28 (length-append server_tag_family.prefix id ∙ ap (λ (n : ℕ). 12 + n) size))

tag_copy : (entries : Entries) (id : Id) (value : List ℕ) → length id ≡ server_id_length
    → private_copy entries (Set (server_tag_family.prefix ++ id) value) ≡ copy_for (one_tag (tag_at value)) (server_tag_family.prefix ++ id) value
unfolding private_copy
tag_copy entries id value size =
    let key = server_tag_family.prefix ++ id in
    ap (λ (kind : RowKind). copy_for (concerned_tags entries kind key value) key value) (tag_row_kind id size)

pub tag_copy_is : ServerTagsGoToTheirServer
tag_copy_is entries id value copy size =
    let key = server_tag_family.prefix ++ id in
    let made = tag_copy entries id value size in
    (λ h. copy_parts (tag_at value) key value copy (sym made ∙ h), λ parts. made ∙ copy_whole (tag_at value) key value copy parts.0 parts.1)

-- ---- any other change

pub other_copy : OtherSetsHaveNoCopy
unfolding private_copy
other_copy entries key value no_keys no_tag = by (kind_of key) refl
  where
    by : (kind : RowKind) → kind_of key ≡ kind → copy_for (concerned_tags entries kind key value) key value ≡ None
    by kinds.ServerKeys is = let two : true ≡ false = sym ((kind_both_ways key kinds.ServerKeys).1 is) ∙ no_keys in absurd (cc)
    by kinds.ServerTag is = let two : true ≡ false = sym ((kind_both_ways key kinds.ServerTag).1 is) ∙ no_tag in absurd (cc)
    by _ is = refl

pub cleared_copy : ClearsHaveNoCopy
unfolding private_copy
cleared_copy entries range = refl
