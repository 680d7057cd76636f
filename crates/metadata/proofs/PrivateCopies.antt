-- The keys of serverKeys rows, and the private copy of a Set.
use Rattle.std.proofs.Common.{◌≡◌, refl, ap, ap₂, ◌∙◌, ℕ, ◌-◌, ◌<◌, List, [], ◌∷◌, length, drop, true, Option, Some, None, arith, length-drop}
use Rattle.std.specs.Prelude.{nat_eq}
use Rattle.std.specs.List.{starts_with}
use Rattle.std.specs.Option.{option_to_list}
use Rattle.std.proofs.lemmas.Bool.{and_parts}
use Rattle.system_keys.specs.declared.change.Change.TheVariants.{Set}
use Rattle.system_keys.specs.declared.kind.RowKind.TheVariants as kinds
use Rattle.system_keys.specs.declared.tag.Tag.{Tag}
use Rattle.system_keys.specs.Keys.{Key}
use Rattle.system_keys.specs.Families.{server_keys_family, slash, kind_of}
use Rattle.system_keys.proofs.KindLaws.{kind_both_ways}
use Rattle.model.specs.declared.outcome.PrivateCopy.{PrivateCopy}
use Rattle.model.specs.Metadata.{Entries}
use Rattle.model.specs.PrivateCopies.{concerned_tags, copy_for, private_copy}

-- a slash stands behind the id
pub past_the_id : (key : Key) → kind_of key ≡ kinds.ServerKeys → 29 < length key
past_the_id key is =
    by (drop 29 key) (length-drop 29 key) (and_parts (starts_with nat_eq key server_keys_family.prefix) (starts_with nat_eq (drop 29 key) slash) ((kind_both_ways key kinds.ServerKeys).1 is)).1
  where
    by : (behind : List ℕ) → length behind ≡ length key - 29 → starts_with nat_eq behind slash ≡ true → 29 < length key
    by [] size h = absurd (cc)
    by (byte ∷ behind) size h = omega (arith, size)

-- the private copy of a Set, by the tag that was looked up for the borrowed key and value
pub copy_of : (entries : Entries) (key value k v : List ℕ) (tag : Option Tag) (copy : Option PrivateCopy) → option_to_list tag ≡ concerned_tags entries (kind_of k) k v → k ≡ key → v ≡ value
    → copy ≡ copy_for (option_to_list tag) key value → copy ≡ private_copy entries (Set key value)
unfolding private_copy
copy_of entries key value k v tag copy tags key_is value_is is =
    is ∙ ap (λ (list : List Tag). copy_for list key value) (tags ∙ ap₂ (λ (key value : List ℕ). concerned_tags entries (kind_of key) key value) key_is value_is)

-- with a tag, a Set has a private copy
pub has_copy : {R : Type 0} (entries : Entries) (key value k v : List ℕ) (tag : Tag) → option_to_list (Some tag) ≡ concerned_tags entries (kind_of k) k v → k ≡ key → v ≡ value
    → private_copy entries (Set key value) ≡ None → R
has_copy entries key value k v tag tags key_is value_is none =
    let is = copy_of entries key value k v (Some tag) (copy_for (tag ∷ []) key value) tags key_is value_is refl in
    let found : copy_for (tag ∷ []) key value ≡ None = is ∙ none in absurd (cc)
