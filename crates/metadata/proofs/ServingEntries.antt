-- The entries of the map between two keys with the prefix are the keyServers entries between these keys without it.
use Rattle.std.proofs.Common.{◌≡◌, refl, sym, ap, ◌∙◌, ℕ, List, [], ◌∷◌, ◌++◌, map, flat_map, length, drop, Bool, true, false, cond, not, ◌&&◌, Option, Some, None, filter, Ordering, Less, Equal, Greater, nat_cmp, nat_eq, is_le, is_lt, is_eq}
use Rattle.std.specs.List.{last_or, starts_with}
use Rattle.std.specs.Ordering.{ordering_then}
use Rattle.std.specs.Cmp.{nat_cmp_total}
use Rattle.std.specs.Cmp.Lexicographic.{slice_cmp}
use Rattle.std.specs.declared.ops.Bound.TheVariants.{Included, Excluded}
use Rattle.std.specs.BTreeMap.Range.{entries_between}
use Rattle.std.proofs.lemmas.Bool.{eq-eqb, eqb-true}
use Rattle.std.proofs.lemmas.Cmp.{tied_itself}
use Rattle.std.proofs.lemmas.Map.Lookups.{exact_unsigned}
use Rattle.system_keys.specs.Keys.{Key, Range, is_key_below, is_key_up_to}
use Rattle.system_keys.specs.declared.tag.Tag.{Tag}
use Rattle.system_keys.specs.Families.{key_servers_family, is_in}
use Rattle.model.specs.Metadata.{Entry, Entries, key_servers_entries, is_key_servers, behind_prefix, is_entry_up_to, is_entry_inside, serving_entry, entry_tags}
use Rattle.metadata.proofs.Tags.{added, next_tags}
use Rattle.system_keys.proofs.KeyOrder.{up_to_is}
use Rattle.system_keys.proofs.KeyLaws.{begins_below}
use Rattle.system_keys.specs.Limits.{range_fault}
use Rattle.metadata.specs.MapEntries.{is_serving_up_to, is_serving_inside}
use Rattle.metadata.specs.Overwrites.{is_listed}

abbrev key_cmp : Key → Key → Ordering
key_cmp = slice_cmp nat_cmp

-- ---- keys behind a prefix

pub same_number : (x y : ℕ) → nat_eq x y ≡ is_eq (nat_cmp x y)
same_number x y = by (nat_cmp x y) refl (nat_eq x y) refl
  where
    apart : (r : Ordering) → nat_cmp x y ≡ r → is_eq r ≡ false → (t : Bool) → nat_eq x y ≡ t → t ≡ false
    apart r h k true e =
        let same : x ≡ y = eqb-true x y e in
        let tied : nat_cmp x y ≡ Equal = ap (λ (z : ℕ). nat_cmp x z) (sym same) ∙ tied_itself nat_cmp_total x in
        let both : r ≡ Equal = sym h ∙ tied in
        sym (ap is_eq both) ∙ k
    apart r h k false e = refl

    by : (r : Ordering) → nat_cmp x y ≡ r → (t : Bool) → nat_eq x y ≡ t → nat_eq x y ≡ is_eq r
    by Less h t e = e ∙ apart Less h refl t e
    by Equal h t e = eq-eqb x y (exact_unsigned x y h)
    by Greater h t e = e ∙ apart Greater h refl t e

pub not_up_to : (a b : Key) → not (is_key_up_to a b) ≡ is_key_below b a
not_up_to a b = ap not (up_to_is a b) ∙ twice (is_key_below b a)
  where
    twice : (t : Bool) → not (not t) ≡ t
    twice true = refl
    twice false = refl

-- from the prefix up to a key behind it
pub up_to_behind : (p key k : Key) → (is_key_up_to p k && not (is_key_below (p ++ key) k)) ≡ (starts_with nat_eq k p && is_key_up_to (drop (length p) k) key)
up_to_behind [] key [] = sym (up_to_is [] key)
up_to_behind [] key (y ∷ k) = sym (up_to_is (y ∷ k) key)
up_to_behind (x ∷ p) key [] = refl
up_to_behind (x ∷ p) key (y ∷ k) =
    by (nat_cmp x y) (up_to_behind p key k) ∙ ap (λ (t : Bool). (t && starts_with nat_eq k p) && is_key_up_to (drop (length p) k) key) (sym (same_number x y))
  where
    by : (r : Ordering) → (is_key_up_to p k && not (is_key_below (p ++ key) k)) ≡ (starts_with nat_eq k p && is_key_up_to (drop (length p) k) key)
        → (is_le (ordering_then r (key_cmp p k)) && not (is_lt (ordering_then r (key_cmp (p ++ key) k)))) ≡ ((is_eq r && starts_with nat_eq k p) && is_key_up_to (drop (length p) k) key)
    by Less rest = refl
    by Equal rest = rest
    by Greater rest = refl

-- after a key behind the prefix, and before another
pub inside_behind : (p begin end k : Key) → (is_key_below (p ++ begin) k && not (is_key_up_to (p ++ end) k)) ≡ (starts_with nat_eq k p && (is_key_below begin (drop (length p) k) && is_key_below (drop (length p) k) end))
inside_behind [] begin end k = ap (λ (t : Bool). is_key_below begin k && t) (not_up_to end k)
inside_behind (x ∷ p) begin end [] = refl
inside_behind (x ∷ p) begin end (y ∷ k) =
    by (nat_cmp x y) (inside_behind p begin end k)
    ∙ ap (λ (t : Bool). (t && starts_with nat_eq k p) && (is_key_below begin (drop (length p) k) && is_key_below (drop (length p) k) end)) (sym (same_number x y))
  where
    by : (r : Ordering) → (is_key_below (p ++ begin) k && not (is_key_up_to (p ++ end) k)) ≡ (starts_with nat_eq k p && (is_key_below begin (drop (length p) k) && is_key_below (drop (length p) k) end))
        → (is_lt (ordering_then r (key_cmp (p ++ begin) k)) && not (is_le (ordering_then r (key_cmp (p ++ end) k)))) ≡ ((is_eq r && starts_with nat_eq k p) && (is_key_below begin (drop (length p) k) && is_key_below (drop (length p) k) end))
    by Less rest = refl
    by Equal rest = rest
    by Greater rest = refl

-- ---- entries behind the prefix

-- a test of keys that passes those which start with the prefix and pass another test behind it
pub record PassesBehind (whole behind : Key → Bool) : Type 0 where
  pub same : (k : Key) → whole k ≡ (is_in key_servers_family k && behind (drop (length key_servers_family.prefix) k))

pub filter_behind : (whole behind : Key → Bool) → PassesBehind whole behind → (rows : Entries) → map behind_prefix (filter (λ (row : Entry). whole row.0) rows) ≡ filter (λ (row : Entry). behind row.0) (key_servers_entries rows)
filter_behind whole behind passes [] = refl
filter_behind whole behind passes (row ∷ rows) =
    by (whole row.0) (is_key_servers row) (behind (behind_prefix row).0) refl (passes.same row.0) (filter_behind whole behind passes rows)
  where
    kept : Entries
    kept = filter (λ (r : Entry). whole r.0) rows

    by : (w s b : Bool) → behind (behind_prefix row).0 ≡ b → w ≡ (s && b) → map behind_prefix kept ≡ filter (λ (r : Entry). behind r.0) (key_servers_entries rows)
        → map behind_prefix (cond w (row ∷ kept) kept) ≡ filter (λ (r : Entry). behind r.0) (map behind_prefix (cond s (row ∷ filter is_key_servers rows) (filter is_key_servers rows)))
    by w false b e h rest = rw h rest
    by w true true e h rest = rw (h, e) (ap (λ (later : Entries). behind_prefix row ∷ later) rest)
    by w true false e h rest = rw (h, e) rest

-- the entries of the map from the prefix up to a key behind it
pub between_up_to : (es : Entries) (least greatest : Key) (key : Key) → least ≡ key_servers_family.prefix ++ [] → greatest ≡ key_servers_family.prefix ++ key
    → (entries_between key_cmp (Included least) (Included greatest) es) ≡ filter (is_serving_up_to key) es
between_up_to es least greatest key low high =
    let same : (row : Entry) → (is_key_up_to least row.0 && not (is_key_below greatest row.0)) ≡ is_serving_up_to key row =
    λ row. rw (low, high) (up_to_behind key_servers_family.prefix key row.0) in
    ap (λ (p : Entry → Bool). filter p es) (λ i row. same row i)

-- the entries of the map after a key behind the prefix, and before another
pub between_inside : (es : Entries) (begin end : Key) (range : Range) → begin ≡ key_servers_family.prefix ++ range.begin → end ≡ key_servers_family.prefix ++ range.end
    → (entries_between key_cmp (Excluded begin) (Excluded end) es) ≡ filter (is_serving_inside range) es
between_inside es begin end range low high =
    let same : (row : Entry) → (is_key_below begin row.0 && not (is_key_up_to end row.0)) ≡ is_serving_inside range row =
    λ row. rw (low, high) (inside_behind key_servers_family.prefix range.begin range.end row.0) in
    ap (λ (p : Entry → Bool). filter p es) (λ i row. same row i)

-- ---- entries that are not hidden

pub filter_both : (p q : Entry → Bool) (rows : Entries) → filter p (filter q rows) ≡ filter q (filter p rows)
filter_both p q [] = refl
filter_both p q (row ∷ rows) = by (p row) refl (q row) refl (filter_both p q rows)
  where
    by : (s : Bool) → p row ≡ s → (t : Bool) → q row ≡ t → filter p (filter q rows) ≡ filter q (filter p rows)
        → filter p (cond t (row ∷ filter q rows) (filter q rows)) ≡ filter q (cond s (row ∷ filter p rows) (filter p rows))
    by true h true k rest = rw (h, k) (ap (λ (later : Entries). row ∷ later) rest)
    by true h false k rest = rw k rest
    by false h true k rest = rw h rest
    by false h false k rest = rest

-- of the entries that pass a test, those up to a key
pub passing_up_to : (p : Entry → Bool) (rows : Entries) (key : Key) → map behind_prefix (filter p (filter (is_serving_up_to key) rows)) ≡ filter (is_entry_up_to key) (key_servers_entries (filter p rows))
passing_up_to p rows key =
    ap (map behind_prefix) (filter_both p (is_serving_up_to key) rows)
    ∙ filter_behind (λ (k : Key). is_in key_servers_family k && is_key_up_to (drop (length key_servers_family.prefix) k) key) (λ (k : Key). is_key_up_to k key) (record { same = λ k. refl }) (filter p rows)

pub passing_inside : (p : Entry → Bool) (rows : Entries) (range : Range) → map behind_prefix (filter p (filter (is_serving_inside range) rows)) ≡ filter (is_entry_inside range) (key_servers_entries (filter p rows))
passing_inside p rows range =
    ap (map behind_prefix) (filter_both p (is_serving_inside range) rows)
    ∙ filter_behind (λ (k : Key). is_in key_servers_family k && (is_key_below range.begin (drop (length key_servers_family.prefix) k) && is_key_below (drop (length key_servers_family.prefix) k) range.end))
    (λ (k : Key). is_key_below range.begin k && is_key_below k range.end) (record { same = λ k. refl }) (filter p rows)

-- ---- the last entry that is not hidden

-- the entry is not hidden
abbrev pub is_left : (hidden : List Key) → Entry → Bool
is_left hidden entry = not (is_listed hidden entry.0)

-- the last of the entries of the map that is not hidden, or else the one before them
abbrev pub last_left : (before : Option Entry) (hidden : List Key) → Entries → Option Entry
last_left before hidden es = last_or before (map behind_prefix (filter (is_left hidden) es))

pub last_hidden : (before : Option Entry) (hidden : List Key) (es : Entries) (e : Entry) → is_listed hidden e.0 ≡ true → last_left before hidden (es ++ e ∷ []) ≡ last_left before hidden es
last_hidden before hidden [] e hides = rw hides refl
last_hidden before hidden (d ∷ es) e hides = by (is_left hidden d) (last_hidden (Some (behind_prefix d)) hidden es e hides) (last_hidden before hidden es e hides)
  where
    left : Entries → Entries
    left list = filter (is_left hidden) list

    by : (t : Bool) → last_left (Some (behind_prefix d)) hidden (es ++ e ∷ []) ≡ last_left (Some (behind_prefix d)) hidden es → last_left before hidden (es ++ e ∷ []) ≡ last_left before hidden es
        → last_or before (map behind_prefix (cond t (d ∷ left (es ++ e ∷ [])) (left (es ++ e ∷ [])))) ≡ last_or before (map behind_prefix (cond t (d ∷ left es) (left es)))
    by true later rest = later
    by false later rest = rest

pub last_shown : (before : Option Entry) (hidden : List Key) (es : Entries) (e : Entry) → is_listed hidden e.0 ≡ false → last_left before hidden (es ++ e ∷ []) ≡ Some (behind_prefix e)
last_shown before hidden [] e shows = rw shows refl
last_shown before hidden (d ∷ es) e shows = by (is_left hidden d) (last_shown (Some (behind_prefix d)) hidden es e shows) (last_shown before hidden es e shows)
  where
    left : Entries → Entries
    left list = filter (is_left hidden) list

    by : (t : Bool) → last_left (Some (behind_prefix d)) hidden (es ++ e ∷ []) ≡ Some (behind_prefix e) → last_left before hidden (es ++ e ∷ []) ≡ Some (behind_prefix e)
        → last_or before (map behind_prefix (cond t (d ∷ left (es ++ e ∷ [])) (left (es ++ e ∷ [])))) ≡ Some (behind_prefix e)
    by true later rest = later
    by false later rest = rest

-- the last of those up to a key serves it
pub last_serves : (hidden : List Key) (rows : Entries) (es : Entries) (key : Key) → es ≡ filter (is_serving_up_to key) rows
    → last_left None hidden es ≡ serving_entry (key_servers_entries (filter (is_left hidden) rows)) key
last_serves hidden rows es key is =
    ap (λ (found : Entries). last_or None (map behind_prefix (filter (is_left hidden) found))) is
    ∙ ap (last_or None) (passing_up_to (is_left hidden) rows key)

-- ---- the tags of the entries

tags_behind : (all rows : Entries) → flat_map (entry_tags all) (map behind_prefix rows) ≡ flat_map (entry_tags all) rows
unfolding entry_tags
tags_behind all [] = refl
tags_behind all (row ∷ rows) = ap (λ (later : List Tag). entry_tags all row ++ later) (tags_behind all rows)

pub tags_inside : (all rows inside : Entries) → map behind_prefix rows ≡ inside → flat_map (entry_tags all) rows ≡ flat_map (entry_tags all) inside
tags_inside all rows inside is = sym (tags_behind all rows) ∙ ap (flat_map (entry_tags all)) is

-- the tags of the entries inside a range that are not hidden
pub tags_left : (all rows : Entries) (hidden : List Key) (es : Entries) (range : Range) → es ≡ filter (is_serving_inside range) rows → filter (is_left hidden) rows ≡ all
    → flat_map (entry_tags all) (filter (is_left hidden) es) ≡ flat_map (entry_tags all) (filter (is_entry_inside range) (key_servers_entries all))
tags_left all rows hidden es range is are =
    ap (λ (found : Entries). flat_map (entry_tags all) (filter (is_left hidden) found)) is
    ∙ tags_inside all (filter (is_left hidden) (filter (is_serving_inside range) rows)) (filter (is_entry_inside range) (key_servers_entries (filter (is_left hidden) rows))) (passing_inside (is_left hidden) rows range)
    ∙ ap (λ (entries : Entries). flat_map (entry_tags all) (filter (is_entry_inside range) (key_servers_entries entries))) are

-- one entry more of those that are not hidden
pub tags_shown : (all rest : Entries) (hidden : List Key) (entry : Entry) (before now total : List Tag) → is_listed hidden entry.0 ≡ false → now ≡ added before (entry_tags all entry)
    → added before (flat_map (entry_tags all) (filter (is_left hidden) (entry ∷ rest))) ≡ total → added now (flat_map (entry_tags all) (filter (is_left hidden) rest)) ≡ total
unfolding entry_tags
tags_shown all rest hidden entry before now total shows is so_far =
    let here : filter (is_left hidden) (entry ∷ rest) ≡ entry ∷ filter (is_left hidden) rest = rw shows refl in
    ap (λ (tags : List Tag). added tags (flat_map (entry_tags all) (filter (is_left hidden) rest))) is
    ∙ next_tags (entry_tags all) before entry (filter (is_left hidden) rest)
    ∙ ap (λ (rows : Entries). added before (flat_map (entry_tags all) rows)) (sym here)
    ∙ so_far

pub tags_hidden : (all rest : Entries) (hidden : List Key) (entry : Entry) (tags total : List Tag) → is_listed hidden entry.0 ≡ true
    → added tags (flat_map (entry_tags all) (filter (is_left hidden) (entry ∷ rest))) ≡ total → added tags (flat_map (entry_tags all) (filter (is_left hidden) rest)) ≡ total
tags_hidden all rest hidden entry tags total hides so_far =
    let here : filter (is_left hidden) (entry ∷ rest) ≡ filter (is_left hidden) rest = rw hides refl in
    ap (λ (rows : Entries). added tags (flat_map (entry_tags all) rows)) (sym here) ∙ so_far

-- one entry more, hidden or not
pub inside_next : (all rest : Entries) (hidden : List Key) (entry : Entry) (before now total : List Tag) → (is_listed hidden entry.0 ≡ true → now ≡ before) → (is_listed hidden entry.0 ≡ false → now ≡ added before (entry_tags all entry))
    → added before (flat_map (entry_tags all) (filter (is_left hidden) (entry ∷ rest))) ≡ total → added now (flat_map (entry_tags all) (filter (is_left hidden) rest)) ≡ total
inside_next all rest hidden entry before now total hides shows so_far = by (is_listed hidden entry.0) refl
  where
    by : (t : Bool) → is_listed hidden entry.0 ≡ t → added now (flat_map (entry_tags all) (filter (is_left hidden) rest)) ≡ total
    by true e = ap (λ (tags : List Tag). added tags (flat_map (entry_tags all) (filter (is_left hidden) rest))) (hides e) ∙ tags_hidden all rest hidden entry before total e so_far
    by false e = tags_shown all rest hidden entry before now total e (shows e) so_far

-- the keys of the keyServers entries at the ends of a range without a fault are in order
pub ends_forward : (begin end : Key) (range : Range) → begin ≡ key_servers_family.prefix ++ range.begin → end ≡ key_servers_family.prefix ++ range.end → range_fault range.begin range.end ≡ None → key_cmp begin end ≡ Less
ends_forward begin end range low high e = rw (low, high) (less (key_cmp range.begin range.end) (begins_below range.begin range.end e))
  where
    less : (r : Ordering) → is_lt r ≡ true → r ≡ Less
    less Less h = refl
    less Equal h = absurd (cc)
    less Greater h = absurd (cc)
