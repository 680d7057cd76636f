-- The tags of a row, gathered by what it names, are those by its value.
use Rattle.std.proofs.Common.{◌≡◌, refl, sym, ap, ◌∙◌, ℕ, length, List, [], ◌∷◌, ◌++◌, Bool, true, false, ◌&&◌, flat_map, nat_eq, Result, Ok, Err, None, Option, Some, option_map}
use Rattle.std.proofs.lemmas.Bool.{eqb-true}
use Rattle.system_keys.specs.declared.refusal.RowFault.{RowFault}
use Rattle.system_keys.specs.declared.location.Location.{Location}
use Rattle.system_keys.specs.declared.location.Location.TheVariants as locations
use Rattle.system_keys.specs.declared.tag.Tag.{Tag}
use Rattle.system_keys.specs.Families.{server_id_length}
use Rattle.system_keys.specs.Rows.{Id, Servers, counted_ids_at, servers_at, at_end, are_ids, ◌>>=◌}
use Rattle.system_keys.specs.Locations.{location_at}
use Rattle.system_keys.proofs.RowLaws.{ids_taken}
use Rattle.system_keys.proofs.LocationLaws.{servers_alone}
use Rattle.model.specs.Metadata.{Entry, Entries, entry_value, all_servers, servers_of, listed_tags, server_tags, sorted_tags}
use Rattle.metadata.specs.CachedTags.{names_by, tag_by, tags_by}
use Rattle.metadata.specs.ServerTables.{ServerTags, GiveTags, tag_listed, tags_named}

-- ---- each server that a value names has an id of 16 bytes

wide_ids : (bytes : List ℕ) (ids : List Id) (rest : List ℕ) → counted_ids_at bytes ≡ Ok (ids, rest) → are_ids ids ≡ true
wide_ids [] ids rest read = absurd (cc)
wide_ids (count ∷ bytes) ids rest read = (ids_taken count None bytes ids rest read).wide

both_wide : (first more : List Id) → are_ids first ≡ true → are_ids more ≡ true → are_ids (first ++ more) ≡ true
both_wide [] more h k = k
both_wide (id ∷ first) more h k = by (nat_eq (length id) server_id_length) h (λ rest. both_wide first more rest k)
  where
    by : (t : Bool) → (t && are_ids first) ≡ true → (are_ids first ≡ true → are_ids (first ++ more) ≡ true) → (t && are_ids (first ++ more)) ≡ true
    by true rest later = later rest
    by false none later = absurd (cc)

-- the servers of a value that is read as one that names servers
abbrev named_alone : Result Servers RowFault → List Id
named_alone (Ok servers) = servers.sources ++ servers.destinations
named_alone (Err fault) = []

-- a value names what it names if it is read so
named_is : (value : List ℕ) → servers_of value ≡ named_alone (servers_at value)
named_is value = by (location_at value) (servers_at value) refl refl
  where
    by : (location : Result Location RowFault) (read : Result Servers RowFault) → location_at value ≡ location → servers_at value ≡ read → all_servers location ≡ named_alone read
    by (Ok (locations.Servers servers)) read is alone = ap named_alone (sym ((servers_alone value servers).0 is) ∙ alone)
    by (Ok (locations.Tags tags)) (Ok servers) is alone =
        let other = sym is ∙ (servers_alone value servers).1 alone in absurd (cc)
    by (Ok (locations.Tags tags)) (Err fault) is alone = refl
    by (Err found) (Ok servers) is alone =
        let other = sym is ∙ (servers_alone value servers).1 alone in absurd (cc)
    by (Err found) (Err fault) is alone = refl

named_wide : (value : List ℕ) → are_ids (servers_of value) ≡ true
named_wide value = ap are_ids (named_is value) ∙ by (counted_ids_at value) refl
  where
    read_behind : List Id × List ℕ → Result Servers RowFault
    read_behind sources = counted_ids_at sources.1 >>= λ destinations. at_end (record { sources = sources.0; destinations = destinations.0 }) destinations.1

    ends : (ids more : List Id) (rest : List ℕ) → are_ids ids ≡ true → are_ids more ≡ true → are_ids (named_alone (at_end (record { sources = ids; destinations = more }) rest)) ≡ true
    ends ids more [] one two = both_wide ids more one two
    ends ids more (byte ∷ bytes) one two = refl

    again : (ids : List Id) (rest : List ℕ) (read : Result (List Id × List ℕ) RowFault) → counted_ids_at rest ≡ read → are_ids ids ≡ true
        → are_ids (named_alone (read >>= λ destinations. at_end (record { sources = ids; destinations = destinations.0 }) destinations.1)) ≡ true
    again ids rest (Err fault) is one = refl
    again ids rest (Ok more) is one = ends ids more.0 more.1 one (wide_ids rest more.0 more.1 is)

    by : (read : Result (List Id × List ℕ) RowFault) → counted_ids_at value ≡ read → are_ids (named_alone (read >>= read_behind)) ≡ true
    by (Err fault) is = refl
    by (Ok sources) is = again sources.0 sources.1 (counted_ids_at sources.1) refl (wide_ids value sources.0 sources.1 is)

-- ---- the tags

same_tags : (f g : Id → List Tag) (ids : List Id) → are_ids ids ≡ true → ((id : Id) → length id ≡ server_id_length → f id ≡ g id) → flat_map f ids ≡ flat_map g ids
same_tags f g [] wide same = refl
same_tags f g (id ∷ ids) wide same = by (nat_eq (length id) server_id_length) refl wide (λ rest. same_tags f g ids rest same)
  where
    by : (t : Bool) → nat_eq (length id) server_id_length ≡ t → (t && are_ids ids) ≡ true → (are_ids ids ≡ true → flat_map f ids ≡ flat_map g ids) → f id ++ flat_map f ids ≡ g id ++ flat_map g ids
    by true size rest later = (λ i. same id (eqb-true (length id) server_id_length size) i ++ later rest i)
    by false size none later = absurd (cc)

-- the tags that the table gives are those of the value's own servers
pub tags_gathered : (servers : ServerTags) (entries : Entries) (value : List ℕ) → GiveTags servers entries → tags_named servers (names_by value) ≡ tags_by (entry_value entries) value
unfolding tags_named tags_by server_tags
tags_gathered servers entries value give =
    ap (λ (named : List Tag). sorted_tags (named ++ listed_tags value)) (same_tags (tag_listed servers) (tag_by (entry_value entries)) (servers_of value) (named_wide value) give)

-- those of a row that was found, if one was
pub found_gathered : (servers : ServerTags) (entries : Entries) (value : Option (List ℕ)) (found : Option Entry) → GiveTags servers entries → value ≡ option_map (λ (entry : Entry). entry.1) found
    → option_map (λ (value : List ℕ). tags_named servers (names_by value)) value ≡ option_map (λ (entry : Entry). tags_by (entry_value entries) entry.1) found
found_gathered servers entries value found give is = ap (option_map (λ (value : List ℕ). tags_named servers (names_by value))) is ∙ by found
  where
    by : (found : Option Entry)
        → option_map (λ (value : List ℕ). tags_named servers (names_by value)) (option_map (λ (entry : Entry). entry.1) found) ≡ option_map (λ (entry : Entry). tags_by (entry_value entries) entry.1) found
    by None = refl
    by (Some entry) = ap Some (tags_gathered servers entries entry.1 give)
