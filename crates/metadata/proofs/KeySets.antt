-- Which keys a set has, after one more and after several.
use Rattle.std.proofs.Common.{◌≡◌, refl, sym, ap, ◌∙◌, ℕ, length, List, [], ◌∷◌, ◌++◌, filter, Bool, true, false, cond, not, ◌&&◌, ◌||◌, Option, Some, None, is_eq, Ordering, Less, Equal, Greater, nat_cmp}
use Rattle.std.specs.List.{AllByRecursion}
use Rattle.std.specs.List.Sorted.{IsStrictlySortedBy}
use Rattle.std.specs.Option.{is_some}
use Rattle.std.specs.Set.{remove_key}
use Rattle.std.specs.Ordering.{match_ordering}
use Rattle.std.specs.BTreeMap.{is_at}
use Rattle.std.specs.BTreeSet.{insert_key}
use Rattle.std.specs.Cmp.Lexicographic.{slice_cmp}
use Rattle.std.proofs.lemmas.Map.Lookups.{exact_bytes}
use Rattle.system_keys.specs.Keys.{Key}
use Rattle.model.specs.Metadata.{Entries, entry_value, Entry}
use Rattle.metadata.specs.Overwrites.{is_same_key, is_listed, has_entry}
use Rattle.metadata.proofs.KeyValues.{same_key, same_itself, key_cmp}

-- ---- one key more

twice : (s l : Bool) → (s || l) ≡ (s || (s || l))
twice true l = refl
twice false l = refl

swapped : (a b l : Bool) → (a || (b || l)) ≡ (b || (a || l))
swapped true true l = refl
swapped true false l = refl
swapped false b l = refl

pub listed_inserted : (keys : List Key) (key : Key) (other : Key) → is_listed (insert_key key_cmp keys key) other ≡ (is_same_key other key || is_listed keys other)
listed_inserted [] key other = refl
listed_inserted (k ∷ keys) key other = by (key_cmp key k) refl (listed_inserted keys key other)
  where
    by : (r : Ordering) → key_cmp key k ≡ r → is_listed (insert_key key_cmp keys key) other ≡ (is_same_key other key || is_listed keys other)
        → is_listed (match_ordering r (key ∷ k ∷ keys) (k ∷ keys) (k ∷ insert_key key_cmp keys key)) other ≡ (is_same_key other key || (is_same_key other k || is_listed keys other))
    by Less is rest = refl
    by Equal is rest =
        let same : key ≡ k = exact_bytes key k is in
        rw same (twice (is_same_key other k) (is_listed keys other))
    by Greater is rest = ap (λ (t : Bool). is_same_key other k || t) rest ∙ swapped (is_same_key other k) (is_same_key other key) (is_listed keys other)

-- ---- one key less

none_behind_it : (key : Key) (keys : List Key) → AllByRecursion (λ (other : Key). slice_cmp nat_cmp key other ≡ Less) keys → is_listed keys key ≡ false
none_behind_it key [] all = refl
none_behind_it key (k ∷ keys) all =
    let apart : is_same_key key k ≡ false = ap is_eq all.0 in
    rw apart (none_behind_it key keys all.1)

nothing : (t : Bool) → false ≡ (not t && false)
nothing true = refl
nothing false = refl

pub listed_removed : (keys : List Key) (key other : Key) → IsStrictlySortedBy key_cmp keys → is_listed ((remove_key (is_at (λ (k : Key). slice_cmp nat_cmp key k)) keys)) other ≡ (not (is_same_key other key) && is_listed keys other)
unfolding IsStrictlySortedBy
listed_removed [] key other s = nothing (is_same_key other key)
listed_removed (k ∷ keys) key other s = by (is_same_key key k) refl (is_same_key other key) refl (is_same_key other k) refl (listed_removed keys key other s.1)
  where
    gone : List Key
    gone = remove_key (is_at (λ (q : Key). slice_cmp nat_cmp key q)) keys

    by : (t : Bool) → is_same_key key k ≡ t → (u : Bool) → is_same_key other key ≡ u → (v : Bool) → is_same_key other k ≡ v
        → is_listed gone other ≡ (not u && is_listed keys other)
        → is_listed (cond t keys (k ∷ gone)) other ≡ (not u && (v || is_listed keys other))
    by true h true w v x later =
        let same : other ≡ k = same_key other key w ∙ same_key key k h in
        ap (is_listed keys) same ∙ none_behind_it k keys s.0
    by true h false w true x later =
        let same : other ≡ key = same_key other k x ∙ sym (same_key key k h) in
        let two : false ≡ true = sym w ∙ ap (is_same_key other) (sym same) ∙ same_itself other in absurd (cc)
    by true h false w false x later = refl
    by false h true w true x later =
        let same : k ≡ key = sym (same_key other k x) ∙ same_key other key w in
        let two : false ≡ true = sym h ∙ ap (is_same_key key) same ∙ same_itself key in absurd (cc)
    by false h true w false x later = rw x later
    by false h false w true x later = rw x refl
    by false h false w false x later = rw x later

-- ---- several keys

-- the keys that are left, beside those so far, are all
abbrev pub AreAdded : (keys left : List Key) (old now : List Key) → Type 0
AreAdded keys left old now = (other : Key) → (is_listed left other || is_listed now other) ≡ (is_listed keys other || is_listed old other)

or_nothing : (t : Bool) → (t || false) ≡ t
or_nothing true = refl
or_nothing false = refl

grouped : (l s b : Bool) → (l || (s || b)) ≡ ((l || s) || b)
grouped true s b = refl
grouped false s b = refl

last_listed : (front : List Key) (k : Key) (other : Key) → is_listed (front ++ k ∷ []) other ≡ (is_listed front other || is_same_key other k)
last_listed [] k other = or_nothing (is_same_key other k)
last_listed (x ∷ front) k other = ap (λ (t : Bool). is_same_key other x || t) (last_listed front k other) ∙ grouped (is_same_key other x) (is_listed front other) (is_same_key other k)

pub added_last : (keys front : List Key) (k : Key) (old before after : List Key) → ((other : Key) → is_listed after other ≡ (is_same_key other k || is_listed before other))
    → AreAdded keys (front ++ k ∷ []) old before → AreAdded keys front old after
added_last keys front k old before after one so_far = λ other.
    ap (λ (t : Bool). is_listed front other || t) (one other)
    ∙ grouped (is_listed front other) (is_same_key other k) (is_listed before other)
    ∙ ap (λ (t : Bool). t || is_listed before other) (sym (last_listed front k other))
    ∙ so_far other

-- a list without elements is empty
pub none_left : {X : Type 0} (xs : List X) → length xs ≡ 0 → xs ≡ []
none_left [] none = refl
none_left (x ∷ xs) none = absurd (cc)

-- ---- some of the keys, one after another

or_right : (a b : Bool) → b ≡ true → (a || b) ≡ true
or_right true b h = refl
or_right false b h = h

or_later : (s a b : Bool) → (a ≡ true → b ≡ true) → (s || a) ≡ true → (s || b) ≡ true
or_later true a b later h = refl
or_later false a b later h = later h

pub listed_some : (p : Key → Bool) (keys : List Key) (other : Key) → is_listed (filter p keys) other ≡ true → is_listed keys other ≡ true
listed_some p [] other h = h
listed_some p (k ∷ keys) other h = by (p k) (listed_some p keys other) h
  where
    by : (t : Bool) → (is_listed (filter p keys) other ≡ true → is_listed keys other ≡ true)
        → is_listed (cond t (k ∷ filter p keys) (filter p keys)) other ≡ true → (is_same_key other k || is_listed keys other) ≡ true
    by true later h = or_later (is_same_key other k) (is_listed (filter p keys) other) (is_listed keys other) later h
    by false later h = or_right (is_same_key other k) (is_listed keys other) (later h)

pub listed_first : (k : Key) (left all : List Key) (key : Key) → all ≡ k ∷ left → k ≡ key → is_listed all key ≡ true
listed_first k left all key steps same =
    let it : is_same_key key k ≡ true = ap (is_same_key key) same ∙ same_itself key in
    ap (λ (keys : List Key). is_listed keys key) steps ∙ ap (λ (t : Bool). t || is_listed left key) it

pub listed_rest : (k : Key) (left all : List Key) (other : Key) → all ≡ k ∷ left → is_listed left other ≡ true → is_listed all other ≡ true
listed_rest k left all other steps h = ap (λ (keys : List Key). is_listed keys other) steps ∙ or_right (is_same_key other k) (is_listed left other) h

-- ---- the keys that entries lack

-- the keys so far, without those of the entries that are left, are all that the entries lack
abbrev pub AreLacked : (entries : Entries) (keys now : List Key) (left : Entries) → Type 0
AreLacked entries keys now left = (key : Key) → (not (has_entry left key) && is_listed now key) ≡ (not (has_entry entries key) && is_listed keys key)

pub lacked_next : (entries : Entries) (keys before after : List Key) (e : Entry) (left : Entries) → ((other : Key) → is_listed after other ≡ (not (is_same_key other e.0) && is_listed before other))
    → AreLacked entries keys before (e ∷ left) → AreLacked entries keys after left
lacked_next entries keys before after e left one so_far = λ key.
    ap (λ (t : Bool). not (has_entry left key) && t) (one key)
    ∙ by (is_same_key key e.0) (entry_value left key) (is_listed before key)
    ∙ so_far key
  where
    by : (s : Bool) (found : Option (List ℕ)) (b : Bool) → (not (is_some found) && (not s && b)) ≡ (not (is_some (cond s (Some e.1) found)) && b)
    by true None b = refl
    by true (Some value) b = refl
    by false None b = refl
    by false (Some value) b = refl

pub all_lacked : (entries : Entries) (keys now : List Key) → AreLacked entries keys now [] → (key : Key) → is_listed now key ≡ (not (has_entry entries key) && is_listed keys key)
all_lacked entries keys now done = done
