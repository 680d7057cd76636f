-- The last entry at or before a keyServers key says which keyServers entry is the last there, if one is; and that one serves the key, unless it is hidden.
use Rattle.std.proofs.Common.{◌≡◌, refl, sym, ap, ◌∙◌, subst, length, drop, List, [], ◌∷◌, ◌++◌, map, Bool, true, false, cond, not, ◌&&◌, Option, Some, None, filter, option_map, inl, is_gt}
use Rattle.std.specs.List.{last_or}
use Rattle.std.specs.declared.ops.Bound.TheVariants.{Included, Unbounded}
use Rattle.std.specs.BTreeMap.Range.{entries_between}
use Rattle.std.proofs.lemmas.Cmp.{nat_list_cmp_total}
use Rattle.system_keys.specs.Keys.{Key, is_key_below, is_key_up_to}
use Rattle.system_keys.specs.Families.{key_servers_family, is_in}
use Rattle.system_keys.proofs.KeyOrder.{below_trans}
use Rattle.model.specs.Metadata.{Entry, Entries, IsInOrder, is_key_servers, behind_prefix, serving_entry, key_servers_entries}
use Rattle.model.proofs.Members.{Has, Has-from_filter, Has-split}
use Rattle.model.proofs.Metadata.Entries.{filter_in_order}
use Rattle.metadata.specs.MapEntries.{is_serving_up_to}
use Rattle.metadata.specs.Overwrites.{is_listed}
use Rattle.metadata.proofs.KeyValues.{key_cmp, rest_in_order}
use Rattle.metadata.proofs.ServingEntries.{is_left, not_up_to, up_to_behind, passing_up_to, filter_both}
use Rattle.metadata.proofs.HiddenRuns.{begun, prefix_first, forward, front_below, up_to_whole, both_tests}

abbrev prefix : Key
prefix = key_servers_family.prefix

-- ---- the last of some entries

last_of : (before : Option Entry) (rows : Entries) (row : Entry) → last_or before (rows ++ row ∷ []) ≡ Some row
last_of before [] row = refl
last_of before (first ∷ rows) row = last_of (Some first) rows row

last_mapped : (before : Option Entry) (rows : Entries) (row : Entry) → last_or before (map behind_prefix (rows ++ row ∷ [])) ≡ Some (behind_prefix row)
last_mapped before [] row = refl
last_mapped before (first ∷ rows) row = last_mapped (Some (behind_prefix first)) rows row

-- a last entry that passes a test is the last of those that pass
last_passing : (p : Entry → Bool) (rows : Entries) (row : Entry) → p row ≡ true → filter p (rows ++ row ∷ []) ≡ filter p rows ++ row ∷ []
last_passing p [] row passes = rw passes refl
last_passing p (first ∷ rows) row passes = by (p first) (last_passing p rows row passes)
  where
    by : (t : Bool) → filter p (rows ++ row ∷ []) ≡ filter p rows ++ row ∷ []
        → cond t (first ∷ filter p (rows ++ row ∷ [])) (filter p (rows ++ row ∷ [])) ≡ cond t (first ∷ filter p rows) (filter p rows) ++ row ∷ []
    by true rest = ap (λ (more : Entries). first ∷ more) rest
    by false rest = rest

never_none : (first : Entry) (rows : Entries) → last_or (Some first) rows ≡ None → ⊥
never_none first [] none = cc
never_none first (next ∷ rows) none = never_none next rows none

no_last : (rows : Entries) → last_or None rows ≡ None → rows ≡ []
no_last [] none = refl
no_last (first ∷ rows) none = absurd (never_none first rows none)

parts_from : (first : Entry) (rows : Entries) (row : Entry) → last_or (Some first) rows ≡ Some row → (front : Entries) × (front ++ row ∷ [] ≡ first ∷ rows)
parts_from first [] row is =
    let same : row ≡ first = cc in ([], λ i. same i ∷ [])
parts_from first (next ∷ rows) row is =
    let later = parts_from next rows row is in (first ∷ later.0, ap (λ (more : Entries). first ∷ more) later.1)

last_parts : (rows : Entries) (row : Entry) → last_or None rows ≡ Some row → (front : Entries) × (front ++ row ∷ [] ≡ rows)
last_parts [] row is = absurd (cc)
last_parts (first ∷ rows) row is = parts_from first rows row is

-- ---- keys below the prefix

-- a key below the prefix does not begin with it
not_own : (key : Key) → is_key_below key prefix ≡ true → is_in key_servers_family key ≡ false
not_own key low = by (is_in key_servers_family key) refl
  where
    by : (t : Bool) → is_in key_servers_family key ≡ t → is_in key_servers_family key ≡ false
    by false out = out
    by true own =
        let first : is_gt (key_cmp prefix key) ≡ false = ap (λ (k : Key). is_gt (key_cmp prefix k)) (begun prefix key own) ∙ prefix_first prefix (drop (length prefix) key) in
        let two : true ≡ false = sym low ∙ sym (ap is_gt (nat_list_cmp_total.antisymm prefix key) ∙ forward (key_cmp key prefix)) ∙ first in absurd (cc)

-- a key up to one with the prefix, which does not begin with it, is below it
under : (behind key : Key) → not (is_key_below (prefix ++ behind) key) ≡ true → is_in key_servers_family key ≡ false → is_key_below key prefix ≡ true
under behind key high out =
    sym (not_up_to prefix key) ∙ ap not (by (is_key_up_to prefix key) (not (is_key_below (prefix ++ behind) key)) (is_in key_servers_family key) (up_to_whole prefix behind key) high out)
  where
    by : (u n s : Bool) → (u && n) ≡ (s && n) → n ≡ true → s ≡ false → u ≡ false
    by false n s same h out = refl
    by true false s same h out = sym h
    by true true false same h out = same
    by true true true same h out = out

-- if the last of entries in order is below the prefix, none is a keyServers entry
none_own : (front : Entries) (row : Entry) → IsInOrder (front ++ row ∷ []) → is_key_below row.0 prefix ≡ true → filter is_key_servers (front ++ row ∷ []) ≡ []
none_own [] row s low = rw (not_own row.0 low) refl
none_own (first ∷ front) row s low =
    let below : is_key_below first.0 row.0 ≡ true = front_below (first ∷ front) row [] first s (inl refl) in
    rw (not_own first.0 (below_trans first.0 row.0 prefix below low)) (none_own front row (rest_in_order first (front ++ row ∷ []) s) low)

-- ---- the entries up to a key

-- the entry is at or before the key, which stands whole
abbrev is_up_to : Key → Entry → Bool
is_up_to key row = not (is_key_below key row.0)

-- the keyServers entries up to a key are those among all entries up to it
serving_own : (rows : Entries) (key : Key) → filter (is_serving_up_to key) rows ≡ filter is_key_servers (filter (is_up_to (prefix ++ key)) rows)
serving_own rows key =
    let same : (row : Entry) → is_serving_up_to key row ≡ (is_key_servers row && is_up_to (prefix ++ key) row) = λ row. sym (up_to_behind prefix key row.0) ∙ up_to_whole prefix key row.0 in
    ap (λ (p : Entry → Bool). filter p rows) (λ i row. same row i) ∙ both_tests is_key_servers (is_up_to (prefix ++ key)) rows ∙ filter_both (is_up_to (prefix ++ key)) is_key_servers rows

-- what the map lists up to a key
listed_up_to : (es part : Entries) (greatest : Key) (key : Key) → greatest ≡ prefix ++ key → entries_between key_cmp Unbounded (Included greatest) es ≡ part → filter (is_up_to (prefix ++ key)) es ≡ part
listed_up_to es part greatest key high found =
    ap (λ (k : Key). filter (is_up_to k) es) (sym high) ∙ found

-- the last of them is a keyServers entry
pub last_own : (es front : Entries) (e : Entry) (greatest : Key) (key : Key) → greatest ≡ prefix ++ key → entries_between key_cmp Unbounded (Included greatest) es ≡ front ++ e ∷ [] → is_in key_servers_family e.0 ≡ true
    → Some e ≡ last_or None (filter (is_serving_up_to key) es)
last_own es front e greatest key high found own =
    let up_to : filter (is_up_to (prefix ++ key)) es ≡ front ++ e ∷ [] = listed_up_to es (front ++ e ∷ []) greatest key high found in
    sym
    (ap (last_or None) (serving_own es key ∙ ap (filter is_key_servers) up_to ∙ last_passing is_key_servers front e own) ∙ last_of None (filter is_key_servers front) e)

-- the last of them is none
pub last_other : (es front : Entries) (e : Entry) (greatest : Key) (key : Key) → IsInOrder es → greatest ≡ prefix ++ key → entries_between key_cmp Unbounded (Included greatest) es ≡ front ++ e ∷ [] → is_in key_servers_family e.0 ≡ false
    → None ≡ last_or None (filter (is_serving_up_to key) es)
last_other es front e greatest key s high found out =
    let up_to : filter (is_up_to (prefix ++ key)) es ≡ front ++ e ∷ [] = listed_up_to es (front ++ e ∷ []) greatest key high found in
    let in_order : IsInOrder (front ++ e ∷ []) = subst IsInOrder up_to (filter_in_order (is_up_to (prefix ++ key)) es s) in
    let passes : is_up_to (prefix ++ key) e ≡ true =
    (Has-from_filter (is_up_to (prefix ++ key)) es e (subst (λ (list : Entries). Has list e) (sym up_to) (Has-split front [] e))).1 in
    sym (ap (last_or None) (serving_own es key ∙ ap (filter is_key_servers) up_to ∙ none_own front e in_order (under key e.0 passes out)))

-- there are none
pub last_missing : (es : Entries) (greatest : Key) (key : Key) → greatest ≡ prefix ++ key → entries_between key_cmp Unbounded (Included greatest) es ≡ [] → None ≡ last_or None (filter (is_serving_up_to key) es)
last_missing es greatest key high found = sym (ap (last_or None) (serving_own es key ∙ ap (filter is_key_servers) (listed_up_to es [] greatest key high found)))

-- ---- the entry that serves a key

shown_last : (hidden : List Key) (front : Entries) (row : Entry) → is_listed hidden row.0 ≡ false → last_or None (map behind_prefix (filter (is_left hidden) (front ++ row ∷ []))) ≡ Some (behind_prefix row)
shown_last hidden front row shows =
    ap (λ (rows : Entries). last_or None (map behind_prefix rows)) (last_passing (is_left hidden) front row (ap not shows)) ∙ last_mapped None (filter (is_left hidden) front) row

-- the last keyServers entry up to a key serves it if it is not hidden
pub shown_serves : (hidden : List Key) (rows : Entries) (key : Key) (row : Entry) → Some row ≡ last_or None (filter (is_serving_up_to key) rows) → is_listed hidden row.0 ≡ false
    → Some row.1 ≡ option_map (λ (entry : Entry). entry.1) (serving_entry (key_servers_entries (filter (is_left hidden) rows)) key)
shown_serves hidden rows key row is shows =
    let parts = last_parts (filter (is_serving_up_to key) rows) row (sym is) in
    ap (option_map (λ (entry : Entry). entry.1))
    (sym (shown_last hidden parts.0 row shows)
    ∙ ap (λ (found : Entries). last_or None (map behind_prefix (filter (is_left hidden) found))) parts.1
    ∙ ap (last_or None) (passing_up_to (is_left hidden) rows key))

-- none serves it if there is none
pub none_serves : (hidden : List Key) (rows : Entries) (key : Key) → None ≡ last_or None (filter (is_serving_up_to key) rows) → None ≡ option_map (λ (entry : Entry). entry.1) (serving_entry (key_servers_entries (filter (is_left hidden) rows)) key)
none_serves hidden rows key is =
    ap (option_map (λ (entry : Entry). entry.1))
    (ap (λ (found : Entries). last_or None (map behind_prefix (filter (is_left hidden) found))) (sym (no_last (filter (is_serving_up_to key) rows) (sym is)))
    ∙ ap (last_or None) (passing_up_to (is_left hidden) rows key))
