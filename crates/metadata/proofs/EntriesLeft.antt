-- Entries without those at some keys: what each key has, how they are removed, and when they are the metadata after a batch.
use Rattle.std.proofs.Common.{◌≡◌, refl, sym, ap, ◌∙◌, subst, ℕ, List, [], ◌∷◌, Bool, true, false, cond, if◌then◌else◌, not, ◌||◌, filter, Option, Some, None, inl, inr}
use Rattle.std.specs.Option.{is_some, option_or}
use Rattle.std.specs.BTreeMap.{is_at}
use Rattle.std.proofs.lemmas.Map.Entries.{lookup-filter-keys}
use Rattle.system_keys.specs.Keys.{Key}
use Rattle.system_keys.specs.Families.{is_kept_key}
use Rattle.model.specs.Metadata.{Entry, Entries, IsInOrder, AreKept, entry_value}
use Rattle.model.proofs.Members.{Has, Has-from_Contains, Contains-from_Has, Has-from_filter}
use Rattle.model.proofs.Metadata.Entries.{filter_in_order}
use Rattle.metadata.specs.Overwrites.{is_same_key, is_listed, has_entry, entries_without, IsPutOver}
use Rattle.metadata.proofs.KeyValues.{key_cmp, same_key, same_itself, same_entries}
use Rattle.metadata.proofs.KeptInOrder.{AreKeptInOrder}

-- ---- what each key has

either_none : (t : Bool) (was : Option (List ℕ)) → cond (not t) was None ≡ (if t then None else was)
either_none true was = refl
either_none false was = refl

pub value_without : (keys : List Key) (rows : Entries) (key : Key) → entry_value (entries_without keys rows) key ≡ (if is_listed keys key then None else entry_value rows key)
value_without keys rows key =
    lookup-filter-keys (is_at (key_cmp key)) (λ (k : Key). not (is_listed keys k)) (not (is_listed keys key)) (λ k same. ap (λ (q : Key). not (is_listed keys q)) (sym (same_key key k same))) rows
    ∙ either_none (is_listed keys key) (entry_value rows key)

pub without_none : (keys : List Key) (rows : Entries) → keys ≡ [] → entries_without keys rows ≡ rows
without_none keys rows none = ap (λ (hidden : List Key). entries_without hidden rows) none ∙ all rows
  where
    all : (rows : Entries) → entries_without [] rows ≡ rows
    all [] = refl
    all (row ∷ rows) = ap (λ (rest : Entries). row ∷ rest) (all rows)

-- ---- the entries at some keys are removed

-- the keys that are left are still to be removed
abbrev pub AreRemoved : (keys : List Key) (left : List Key) (old now : Entries) → Type 0
AreRemoved keys left old now = (key : Key) → (if is_listed left key then None else entry_value now key) ≡ (if is_listed keys key then None else entry_value old key)

one_more : (s l : Bool) (found : Option (List ℕ)) → (if l then None else (if s then None else found)) ≡ (if s || l then None else found)
one_more true true found = refl
one_more true false found = refl
one_more false l found = refl

pub removed_next : (keys : List Key) (k : Key) (left : List Key) (old before after : Entries) → ((key : Key) → entry_value after key ≡ (if is_same_key key k then None else entry_value before key))
    → AreRemoved keys (k ∷ left) old before → AreRemoved keys left old after
removed_next keys k left old before after one so_far = λ key.
    ap (λ (found : Option (List ℕ)). if is_listed left key then None else found) (one key)
    ∙ one_more (is_same_key key k) (is_listed left key) (entry_value before key)
    ∙ so_far key

pub all_removed : (keys : List Key) (old now : Entries) → IsInOrder old → IsInOrder now → AreRemoved keys [] old now → now ≡ entries_without keys old
all_removed keys old now s t done = same_entries now (entries_without keys old) t (filter_in_order (λ (row : Entry). not (is_listed keys row.0)) old s) (λ key. done key ∙ sym (value_without keys old key))

-- ---- kept keys

pub without_kept_in_order : (keys : List Key) (old new : Entries) → AreKeptInOrder old → new ≡ entries_without keys old → AreKeptInOrder new
without_kept_in_order keys old new fine is =
    subst AreKeptInOrder (sym is)
    (filter_in_order left old fine.0, λ row there. fine.1 row (Contains-from_Has old row (Has-from_filter left old row (Has-from_Contains (filter left old) row there)).0))
  where
    left : Entry → Bool
    left row = not (is_listed keys row.0)

pub value_kept : (rows : Entries) (key : Key) → ((row : Entry) → Has rows row → is_kept_key row.0 ≡ true) → has_entry rows key ≡ true → is_kept_key key ≡ true
value_kept [] key all has = absurd (cc)
value_kept (row ∷ rows) key all has = by (is_same_key key row.0) refl has (value_kept rows key (λ r there. all r (inr there)))
  where
    by : (s : Bool) → is_same_key key row.0 ≡ s → is_some (cond s (Some row.1) (entry_value rows key)) ≡ true → (has_entry rows key ≡ true → is_kept_key key ≡ true) → is_kept_key key ≡ true
    by true same h rest = ap is_kept_key (same_key key row.0 same) ∙ all row (inl refl)
    by false same h rest = rest h

there_at : (s : Bool) (value : List ℕ) (found : Option (List ℕ)) → is_some found ≡ true → is_some (cond s (Some value) found) ≡ true
there_at true value found h = refl
there_at false value found h = h

has_value : (rows : Entries) (row : Entry) → Has rows row → has_entry rows row.0 ≡ true
has_value [] row h = absurd h
has_value (r ∷ rows) row (inl same) = rw (ap (λ (e : Entry). e.0) same, same_itself row.0) refl
has_value (r ∷ rows) row (inr there) = there_at (is_same_key row.0 r.0) r.1 (entry_value rows row.0) (has_value rows row there)

either_there : (put was : Option (List ℕ)) → is_some (option_or put was) ≡ true → is_some put ≡ false → is_some was ≡ true
either_there None was h none = h
either_there (Some value) was h none = absurd (cc)

pub over_kept : (puts old new : Entries) → AreKept puts → AreKept old → IsPutOver puts old new → AreKept new
over_kept puts old new put_kept old_kept over = λ row there. by row.0 (ap is_some (sym (over row.0)) ∙ has_value new row (Has-from_Contains new row there)) (has_entry puts row.0) refl
  where
    by : (key : Key) → is_some (option_or (entry_value puts key) (entry_value old key)) ≡ true → (p : Bool) → has_entry puts key ≡ p → is_kept_key key ≡ true
    by key there true put = value_kept puts key (λ row has. put_kept row (Contains-from_Has puts row has)) put
    by key there false put = value_kept old key (λ row has. old_kept row (Contains-from_Has old row has)) (either_there (entry_value puts key) (entry_value old key) there put)

-- ---- the metadata after a batch
