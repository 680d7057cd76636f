-- What was displaced, put back with the last one first, gives the entries before.
use Rattle.std.proofs.Common.{◌≡◌, refl, sym, ap, ◌∙◌, subst, ℕ, List, [], ◌∷◌, ◌++◌, Bool, true, false, if◌then◌else◌, not, ◌||◌, Option, Some, None, Ordering, Less, Equal, Greater}
use Rattle.std.specs.List.Sorted.{IsStrictlySortedBy}
use Rattle.std.specs.Option.{is_some}
use Rattle.std.specs.Ordering.{match_ordering}
use Rattle.std.specs.BTreeMap.{insert_entry}
use Rattle.system_keys.specs.Keys.{Key}
use Rattle.model.specs.Metadata.{Entry, Entries, IsInOrder, entry_value}
use Rattle.model.proofs.Metadata.Entries.{filter_in_order}
use Rattle.metadata.specs.Overwrites.{is_same_key, is_listed, has_entry, entries_without, Displaced, value_back, taken_back, FindEntries, TakesBack}
use Rattle.metadata.proofs.KeyValues.{key_cmp, same_key, same_itself, Behind, behind_trans, turned, same_entries, value_put}
use Rattle.metadata.proofs.EntriesLeft.{value_without}

-- ---- one entry

behind_put : (a : Key) (rows : Entries) (key : Key) (value : List ℕ) → key_cmp a key ≡ Less → Behind a rows → Behind a (insert_entry key_cmp rows key value)
behind_put a [] key value h all = (h, tt)
behind_put a (e ∷ rows) key value h all = by (key_cmp key e.0) (behind_put a rows key value h all.1)
  where
    by : (r : Ordering) → Behind a (insert_entry key_cmp rows key value) → Behind a (match_ordering r ((key, value) ∷ e ∷ rows) ((e.0, value) ∷ rows) (e ∷ insert_entry key_cmp rows key value))
    by Less rest = (h, all)
    by Equal rest = all
    by Greater rest = (all.0, rest)

put_in_order : (rows : Entries) (key : Key) (value : List ℕ) → IsInOrder rows → IsInOrder (insert_entry key_cmp rows key value)
unfolding IsStrictlySortedBy
put_in_order [] key value s = (tt, tt)
put_in_order (e ∷ rows) key value s = by (key_cmp key e.0) refl (put_in_order rows key value s.1)
  where
    by : (r : Ordering) → key_cmp key e.0 ≡ r → IsInOrder (insert_entry key_cmp rows key value) → IsInOrder (match_ordering r ((key, value) ∷ e ∷ rows) ((e.0, value) ∷ rows) (e ∷ insert_entry key_cmp rows key value))
    by Less h rest = ((h, behind_trans key e.0 rows h s.0), s)
    by Equal h rest = s
    by Greater h rest = (behind_put e.0 rows key value (turned key e.0 h) s.0, rest)

-- what stood at the key, put back
value_returned : (old : Entries) (key : Key) (value : List ℕ) (was : Option (List ℕ)) → IsInOrder old → was ≡ entry_value old key → value_back (insert_entry key_cmp old key value) key was ≡ old
value_returned old key value None s is =
    same_entries (entries_without (key ∷ []) new) old (filter_in_order (λ (row : Entry). not (is_listed (key ∷ []) row.0)) new (put_in_order old key value s)) s (λ other. value_without (key ∷ []) new other ∙ by other (is_same_key other key) refl)
  where
    new : Entries
    new = insert_entry key_cmp old key value

    by : (other : Key) (t : Bool) → is_same_key other key ≡ t → (if t || false then None else entry_value new other) ≡ entry_value old other
    by other true same = is ∙ ap (entry_value old) (sym (same_key other key same))
    by other false apart = value_put old key other value ∙ ap (λ (t : Bool). if t then Some value else entry_value old other) apart
value_returned old key value (Some was) s is =
    same_entries (insert_entry key_cmp new key was) old (put_in_order new key was (put_in_order old key value s)) s (λ other. value_put new key other was ∙ by other (is_same_key other key) refl)
  where
    new : Entries
    new = insert_entry key_cmp old key value

    by : (other : Key) (t : Bool) → is_same_key other key ≡ t → (if t then Some was else entry_value new other) ≡ entry_value old other
    by other true same = is ∙ ap (entry_value old) (sym (same_key other key same))
    by other false apart = value_put old key other value ∙ ap (λ (t : Bool). if t then Some value else entry_value old other) apart

-- the entries without the one at a key
pub one_removed : (old new : Entries) (key : Key) → IsInOrder old → IsInOrder new → ((other : Key) → entry_value new other ≡ (if is_same_key other key then None else entry_value old other)) → new ≡ entries_without (key ∷ []) old
one_removed old new key s t removed =
    same_entries new (entries_without (key ∷ []) old) t (filter_in_order (λ (row : Entry). not (is_listed (key ∷ []) row.0)) old s) (λ other. removed other ∙ by other (is_same_key other key) ∙ sym (value_without (key ∷ []) old other))
  where
    by : (other : Key) (t : Bool) → (if t then None else entry_value old other) ≡ (if t || false then None else entry_value old other)
    by other true = refl
    by other false = refl

-- ---- one after another

taken_more : (displaced : List Displaced) (last : Displaced) (entries : Entries) → taken_back (displaced ++ last ∷ []) entries ≡ taken_back displaced (value_back entries last.0 last.1)
taken_more [] last entries = refl
taken_more (first ∷ later) last entries = ap (λ (rest : Entries). value_back rest first.0 first.1) (taken_more later last entries)

find_more : (displaced : List Displaced) (last : Displaced) (entries : Entries) → (is_some last.1 ≡ true → has_entry entries last.0 ≡ true) → FindEntries displaced (value_back entries last.0 last.1) → FindEntries (displaced ++ last ∷ []) entries
find_more [] last entries there find = (there, tt)
find_more (first ∷ later) last entries there find = (
  (λ some. ap (λ (rest : Entries). has_entry rest first.0) (taken_more later last entries) ∙ find.0 some),
  find_more later last entries there find.1,
)

find_less : (displaced : List Displaced) (last : Displaced) (entries : Entries) → FindEntries (displaced ++ last ∷ []) entries → (is_some last.1 ≡ true → has_entry entries last.0 ≡ true) × FindEntries displaced (value_back entries last.0 last.1)
find_less [] last entries find = (find.0, tt)
find_less (first ∷ later) last entries find =
    let rest = find_less later last entries find.1 in (
      rest.0,
      ((λ some. ap (λ (left : Entries). has_entry left first.0) (sym (taken_more later last entries)) ∙ find.0 some), rest.1),
    )

-- nothing was displaced
pub takes_nothing : (displaced : List Displaced) (entries : Entries) → displaced ≡ [] → TakesBack displaced entries entries
takes_nothing displaced entries none = subst (λ (list : List Displaced). TakesBack list entries entries) (sym none) (record { find = tt; gives = refl })

pub taken_all : (displaced : List Displaced) (before now : Entries) → displaced ≡ [] → TakesBack displaced before now → now ≡ before
taken_all displaced before now none takes = (subst (λ (list : List Displaced). TakesBack list before now) none takes).gives

-- one value more is put
takes_more : (displaced : List Displaced) (before old new : Entries) (key : Key) (value : List ℕ) (was : Option (List ℕ)) → IsInOrder old → was ≡ entry_value old key → new ≡ insert_entry key_cmp old key value
    → TakesBack displaced before old → TakesBack (displaced ++ (key, was) ∷ []) before new
takes_more displaced before old new key value was s is put takes =
    let back : value_back new key was ≡ old = ap (λ (entries : Entries). value_back entries key was) put ∙ value_returned old key value was s is in
    record {
      find = find_more displaced (key, was) new (λ some. ap (λ (entries : Entries). has_entry entries key) put ∙ ap is_some (value_put old key key value) ∙ rw (same_itself key) refl) (subst (λ (entries : Entries). FindEntries displaced entries) (sym back) takes.find);
      gives = taken_more displaced (key, was) new ∙ ap (taken_back displaced) back ∙ takes.gives;
    }

-- the same where what stood there is looked up before
pub takes_put : (before_put after_put : List Displaced) (before old new : Entries) (key : Key) (value : List ℕ) → IsInOrder old → after_put ≡ before_put ++ (key, entry_value old key) ∷ [] → new ≡ insert_entry key_cmp old key value
    → TakesBack before_put before old → TakesBack after_put before new
takes_put before_put after_put before old new key value s list put takes =
    subst (λ (displaced : List Displaced). TakesBack displaced before new) (sym list) (takes_more before_put before old new key value (entry_value old key) s refl put takes)

-- nothing more is put
pub takes_same : (before_put after_put : List Displaced) (before old new : Entries) → after_put ≡ before_put → new ≡ old → TakesBack before_put before old → TakesBack after_put before new
takes_same before_put after_put before old new list same takes =
    subst (λ (displaced : List Displaced). TakesBack displaced before new) (sym list) (subst (λ (entries : Entries). TakesBack before_put before entries) (sym same) takes)

-- the last of what was displaced is put back
pub takes_less : (displaced : List Displaced) (last : Displaced) (before now after : Entries) → ((is_some last.1 ≡ true → has_entry now last.0 ≡ true) → after ≡ value_back now last.0 last.1) → TakesBack (displaced ++ last ∷ []) before now → TakesBack displaced before after
takes_less displaced last before now after put takes =
    let rest = find_less displaced last now takes.find in
    let is : after ≡ value_back now last.0 last.1 = put rest.0 in
    record {
      find = subst (λ (entries : Entries). FindEntries displaced entries) (sym is) rest.1;
      gives = ap (taken_back displaced) is ∙ sym (taken_more displaced last now) ∙ takes.gives;
    }
