-- A loop over keys that gives each of them the same value, and which keys are listed.
use Rattle.std.proofs.Common.{◌≡◌, refl, sym, ap, ◌∙◌, ℕ, ◌+◌, ◌<◌, ◌≤◌, length, drop, get_or, add-one, List, [], ◌∷◌, Bool, true, false, cond, if◌then◌else◌, ◌&&◌, ◌||◌, filter, Option, Some}
use Rattle.std.specs.Option.{is_some}
use Rattle.std.specs.Map.{keys_of}
use Rattle.std.proofs.Math.Seq.{drop-cons}
use Rattle.std.proofs.lemmas.List.{drop_all}
use Rattle.system_keys.specs.Keys.{Key}
use Rattle.model.specs.Metadata.{Entry, Entries, entry_value}
use Rattle.metadata.specs.Overwrites.{is_same_key, is_listed, has_entry}
use Rattle.metadata.proofs.KeyValues.{same_key}

-- the keys that are left, of those that count, are still to get the value
abbrev pub GetValue : (value : Option (List ℕ)) (counts : Key → Bool) (keys left : List Key) (old now : Entries) → Type 0
GetValue value counts keys left old now =
    (key : Key) → (if counts key && is_listed left key then value else entry_value now key) ≡ (if counts key && is_listed keys key then value else entry_value old key)

one_more : (c s l : Bool) (value found : Option (List ℕ)) → (if c && l then value else (if c && s then value else found)) ≡ (if c && (s || l) then value else found)
one_more true true true value found = refl
one_more true true false value found = refl
one_more true false l value found = refl
one_more false s l value found = refl

pub next_listed : (value : Option (List ℕ)) (counts : Key → Bool) (keys : List Key) (d : Key) (i : ℕ) (old before after : Entries) → i < length keys
    → ((key : Key) → entry_value after key ≡ (if counts key && is_same_key key (get_or keys i d) then value else entry_value before key))
    → GetValue value counts keys (drop i keys) old before → GetValue value counts keys (drop (i + 1) keys) old after
next_listed value counts keys d i old before after within one so_far = λ key.
    let split : drop i keys ≡ get_or keys i d ∷ drop (i + 1) keys = rw (add-one, drop-cons keys i d) in
    ap (λ (found : Option (List ℕ)). if counts key && is_listed (drop (i + 1) keys) key then value else found) (one key)
    ∙ one_more (counts key) (is_same_key key (get_or keys i d)) (is_listed (drop (i + 1) keys) key) value (entry_value before key)
    ∙ ap (λ (left : List Key). if counts key && is_listed left key then value else entry_value before key) (sym split)
    ∙ so_far key

none_left : (c : Bool) (value found : Option (List ℕ)) → found ≡ (if c && false then value else found)
none_left true value found = refl
none_left false value found = refl

pub all_listed : (value : Option (List ℕ)) (counts : Key → Bool) (keys : List Key) (i : ℕ) (old now : Entries) → length keys ≤ i → GetValue value counts keys (drop i keys) old now
    → (key : Key) → entry_value now key ≡ (if counts key && is_listed keys key then value else entry_value old key)
all_listed value counts keys i old now past so_far key =
    none_left (counts key) value (entry_value now key)
    ∙ ap (λ (left : List Key). if counts key && is_listed left key then value else entry_value now key) (sym (drop_all i keys past))
    ∙ so_far key

-- ---- the keys of entries that pass a test

pub filtered_keys : (p : Key → Bool) (rows : Entries) (key : Key) → is_listed (keys_of (filter (λ (row : Entry). p row.0) rows)) key ≡ (p key && has_entry rows key)
filtered_keys p [] key = none (p key)
  where
    none : (t : Bool) → false ≡ (t && false)
    none true = refl
    none false = refl
filtered_keys p (row ∷ rows) key = by (is_same_key key row.0) refl (p row.0) refl (p key) refl (filtered_keys p rows key)
  where
    rest : List Key
    rest = keys_of (filter (λ (r : Entry). p r.0) rows)

    two : (t u : Bool) → p row.0 ≡ t → p key ≡ u → is_same_key key row.0 ≡ true → t ≡ u
    two t u h k same = sym h ∙ ap p (sym (same_key key row.0 same)) ∙ k

    by : (s : Bool) → is_same_key key row.0 ≡ s → (t : Bool) → p row.0 ≡ t → (u : Bool) → p key ≡ u → is_listed rest key ≡ (u && has_entry rows key)
        → is_listed (keys_of (cond t (row ∷ filter (λ (r : Entry). p r.0) rows) (filter (λ (r : Entry). p r.0) rows))) key ≡ (u && is_some (cond s (Some row.1) (entry_value rows key)))
    by true same true h true k later = rw same refl
    by true same true h false k later = let two_ways : true ≡ false = two true false h k same in absurd (cc)
    by true same false h true k later = let two_ways : false ≡ true = two false true h k same in absurd (cc)
    by true same false h false k later = later
    by false same true h u k later = rw same later
    by false same false h u k later = later

-- the keys of entries
pub listed_keys : (rows : Entries) (key : Key) → is_listed (keys_of rows) key ≡ has_entry rows key
listed_keys [] key = refl
listed_keys (row ∷ rows) key = by (is_same_key key row.0) (listed_keys rows key)
  where
    by : (s : Bool) → is_listed (keys_of rows) key ≡ has_entry rows key → (s || is_listed (keys_of rows) key) ≡ is_some (cond s (Some row.1) (entry_value rows key))
    by true later = refl
    by false later = later
