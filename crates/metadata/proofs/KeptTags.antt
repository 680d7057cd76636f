-- The tags that are looked up are those of the rows that serve a key, or that a range holds.
use Rattle.std.proofs.Common.{◌≡◌, refl, sym, ap, ◌∙◌, subst, ℕ, ◌-◌, length, take, drop, length-drop, List, [], ◌∷◌, append-nil, flat_map, Bool, true, false, cond, Option, Some, None, option_map, option_to_list, filter, inl, inr}
use Rattle.std.proofs.Math.Seq.{take-length}
use Rattle.system_keys.specs.declared.tag.Tag.{Tag}
use Rattle.system_keys.specs.Keys.{Key}
use Rattle.model.specs.Metadata.{Entry, Entries, IsInOrder, entry_value, key_servers_entries, is_key_servers, behind_prefix, serving_entry, entry_tags, server_tags, sorted_tags, tags, tags_of_key}
use Rattle.model.proofs.Members.{Has, Has-from_filter, Has-filter, Has-map}
use Rattle.model.specs.declared.routing.Route.{Route}
use Rattle.std.specs.Prelude.{slice_get}
use Rattle.metadata.proofs.RouteEntries.{same_route}
use Rattle.metadata.specs.Overwrites.{is_same_key}
use Rattle.metadata.specs.CachedTags.{tags_by}
use Rattle.metadata.proofs.KeyValues.{same_key, none_behind, first_behind, rest_in_order, first_value}
use Rattle.metadata.proofs.Tags.{added}
use Rattle.metadata.proofs.SortedTags.{resorted}

-- ---- the rows of the metadata

pub value_of : (rows : Entries) (row : Entry) → IsInOrder rows → Has rows row → entry_value rows row.0 ≡ Some row.1
value_of [] row s has = absurd has
value_of (r ∷ rows) row s (inl same) = subst (λ (e : Entry). entry_value (r ∷ rows) e.0 ≡ Some e.1) same (first_value r rows)
value_of (r ∷ rows) row s (inr there) = by (is_same_key row.0 r.0) refl (value_of rows row (rest_in_order r rows s) there)
  where
    by : (t : Bool) → is_same_key row.0 r.0 ≡ t → entry_value rows row.0 ≡ Some row.1 → cond t (Some r.1) (entry_value rows row.0) ≡ Some row.1
    by true same value =
        let none : Some row.1 ≡ None = sym value ∙ ap (entry_value rows) (same_key row.0 r.0 same) ∙ none_behind r.0 rows (first_behind r rows s) in absurd (cc)
    by false other value = value

-- each entry of the map is one of the metadata
abbrev pub AreRows : (rows : Entries) (es : Entries) → Type 0
AreRows rows es = (entry : Entry) → Has es entry → entry_value rows entry.0 ≡ Some entry.1

pub rows_passing : (rows : Entries) (p : Entry → Bool) (es : Entries) → IsInOrder rows → es ≡ filter p rows → AreRows rows es
rows_passing rows p es s is = λ entry has. value_of rows entry s (Has-from_filter p rows entry (subst (λ (found : Entries). Has found entry) is has)).0

-- ---- the tags of a change

-- the tags by a value are those of its row
pub own_tags : (rows : Entries) (row : Entry) → tags_by (entry_value rows) row.1 ≡ sorted_tags (entry_tags rows row)
unfolding tags_by entry_tags server_tags
own_tags rows row = refl

-- the tags that are known, or none
abbrev pub known_tags : Option (List Tag) → List Tag
known_tags None = []
known_tags (Some list) = list

served_tags : (rows : Entries) (found : Option Entry) → known_tags (option_map (λ (entry : Entry). tags_by (entry_value rows) entry.1) found) ≡ sorted_tags (flat_map (entry_tags rows) (option_to_list found))
served_tags rows None = refl
served_tags rows (Some row) = own_tags rows row ∙ ap sorted_tags (sym (append-nil (entry_tags rows row)))

-- the tags known for the row that serves a key are those of the key
pub tags_known : (rows : Entries) (key : Key) (known : Option (List Tag)) → known ≡ option_map (λ (entry : Entry). tags_by (entry_value rows) entry.1) (serving_entry (key_servers_entries rows) key) → known_tags known ≡ tags_of_key rows key
unfolding tags
tags_known rows key known is = ap known_tags is ∙ served_tags rows (serving_entry (key_servers_entries rows) key)

-- they are added like those of its servers
pub served_added : (rows : Entries) (before : List Tag) (found : Option Entry) → added before (known_tags (option_map (λ (entry : Entry). tags_by (entry_value rows) entry.1) found)) ≡ added before (flat_map (entry_tags rows) (option_to_list found))
served_added rows before found = ap (added before) (served_tags rows found) ∙ resorted before (flat_map (entry_tags rows) (option_to_list found))

pub row_added : (rows : Entries) (before : List Tag) (row : Entry) → added before (tags_by (entry_value rows) row.1) ≡ added before (entry_tags rows row)
row_added rows before row = ap (added before) (own_tags rows row) ∙ resorted before (entry_tags rows row)

-- ---- one entry after another

pub rows_rest : (rows : Entries) (e : Entry) (es left : Entries) → left ≡ e ∷ es → AreRows rows left → AreRows rows es
rows_rest rows e es left is all = λ entry has. subst (AreRows rows) is all entry (inr has)

-- ---- the row at a place

has_from_value : (rows : Entries) (key : Key) (value : List ℕ) → entry_value rows key ≡ Some value → Has rows (key, value)
has_from_value [] key value is = absurd (cc)
has_from_value (row ∷ rows) key value is = by (is_same_key key row.0) refl is (has_from_value rows key value)
  where
    by : (t : Bool) → is_same_key key row.0 ≡ t → cond t (Some row.1) (entry_value rows key) ≡ Some value → (entry_value rows key ≡ Some value → Has rows (key, value)) → Has (row ∷ rows) (key, value)
    by true same h later =
        let at : key ≡ row.0 = same_key key row.0 same in
        let value_is : row.1 ≡ value = cc in
        let back : row.0 ≡ key = sym at in
        inl (λ i. (back i, value_is i))
    by false other h later = inr (later h)

-- the tags by the value of a row are those of the key that follows its prefix
pub row_key_tags : (rows : Entries) (row : Entry) → IsInOrder rows → entry_value rows row.0 ≡ Some row.1 → is_key_servers row ≡ true → tags_by (entry_value rows) row.1 ≡ tags_of_key rows (behind_prefix row).0
row_key_tags rows row s there own =
    own_tags rows (behind_prefix row)
    ∙ ap (λ (route : Route). route.tags) (same_route rows (behind_prefix row) s (Has-map behind_prefix (filter is_key_servers rows) row (Has-filter is_key_servers rows row (has_from_value rows row.0 row.1 there) own)))

-- the first of the rows that are left
pub row_at : (row : Entry) (rest : Entries) (before : ℕ) (total : Option Entry) → is_key_servers row ≡ true → before ≡ 0 → slice_get (key_servers_entries (row ∷ rest)) before ≡ total → Some (behind_prefix row) ≡ total
row_at row rest before total own first is =
    let here : slice_get (key_servers_entries (row ∷ rest)) 0 ≡ Some (behind_prefix row) = rw own refl in
    sym here ∙ ap (slice_get (key_servers_entries (row ∷ rest))) (sym first) ∙ is

-- a key behind a prefix, to its end
pub to_the_end : (n : ℕ) (xs : List ℕ) → take (length xs - n) (drop n xs) ≡ drop n xs
to_the_end n xs = ap (λ (count : ℕ). take count (drop n xs)) (sym (length-drop n xs)) ∙ take-length (drop n xs)
