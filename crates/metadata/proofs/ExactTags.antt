-- The tags of the row at a place, by what its value names, are those of the key that follows its prefix.
use Rattle.std.proofs.Common.{◌≡◌, refl, ap, ◌∙◌, ℕ, zero, suc, List, [], ◌∷◌, map, filter, Bool, true, false, cond, Option, Some, None, option_map, inl, inr}
use Rattle.std.specs.Prelude.{slice_get}
use Rattle.model.specs.Metadata.{Entry, Entries, IsInOrder, entry_value, is_key_servers, behind_prefix, key_servers_entries, tags_of_key}
use Rattle.model.proofs.Members.{Has}
use Rattle.metadata.specs.CachedTags.{names_by}
use Rattle.metadata.specs.ServerTables.{ServerTags, GiveTags, tags_named}
use Rattle.metadata.proofs.KeptTags.{value_of, row_key_tags}
use Rattle.metadata.proofs.GatheredTags.{tags_gathered}

place_named : (all : Entries) (servers : ServerTags) → IsInOrder all → GiveTags servers all → (rows : Entries) → ((row : Entry) → Has rows row → entry_value all row.0 ≡ Some row.1) → (place : ℕ)
    → option_map (λ (row : Entry). tags_named servers (names_by row.1)) (slice_get (key_servers_entries rows) place) ≡ option_map (λ (entry : Entry). tags_of_key all entry.0) (slice_get (key_servers_entries rows) place)
place_named all servers s give [] each place = refl
place_named all servers s give (row ∷ rows) each place = by (is_key_servers row) refl place (place_named all servers s give rows (λ r has. each r (inr has)))
  where
    own : Entries
    own = filter is_key_servers rows

    by : (t : Bool) → is_key_servers row ≡ t → (n : ℕ)
        → ((m : ℕ) → option_map (λ (r : Entry). tags_named servers (names_by r.1)) (slice_get (map behind_prefix own) m) ≡ option_map (λ (e : Entry). tags_of_key all e.0) (slice_get (map behind_prefix own) m))
        → option_map (λ (r : Entry). tags_named servers (names_by r.1)) (slice_get (map behind_prefix (cond t (row ∷ own) own)) n) ≡ option_map (λ (e : Entry). tags_of_key all e.0) (slice_get (map behind_prefix (cond t (row ∷ own) own)) n)
    by false h n later = later n
    by true h zero later = ap Some (tags_gathered servers all row.1 give ∙ row_key_tags all row s (each row (inl refl)) h)
    by true h (suc n) later = later n

through : (f : Entry → List ℕ) (found : Option Entry) (servers : ServerTags) → option_map (λ (value : List ℕ). tags_named servers (names_by value)) (option_map f found) ≡ option_map (λ (row : Entry). tags_named servers (names_by (f row))) found
through f None servers = refl
through f (Some row) servers = refl

-- the tags of the row at a place, by its value
pub place_known : (entries : Entries) (servers : ServerTags) (place : ℕ) (value : Option (List ℕ)) → IsInOrder entries → GiveTags servers entries
    → value ≡ option_map (λ (row : Entry). row.1) (slice_get (key_servers_entries entries) place)
    → option_map (λ (value : List ℕ). tags_named servers (names_by value)) value ≡ option_map (λ (entry : Entry). tags_of_key entries entry.0) (slice_get (key_servers_entries entries) place)
place_known entries servers place value s give is =
    ap (option_map (λ (value : List ℕ). tags_named servers (names_by value))) is
    ∙ through (λ (row : Entry). row.1) (slice_get (key_servers_entries entries) place) servers
    ∙ place_named entries servers s give entries (λ row has. value_of entries row s has) place
