-- What each key has after entries are added, removed and put; and that a row of a journal does the same.
use Rattle.std.proofs.Common.{◌≡◌, refl, sym, ap, ◌∙◌, subst, ℕ, List, [], ◌∷◌, ◌++◌, Bool, true, false, if◌then◌else◌, not, ◌&&◌, ◌||◌, filter, fold, Option, Some, None}
use Rattle.std.specs.Option.{is_some, option_or}
use Rattle.std.specs.List.{list_any}
use Rattle.std.specs.Map.{keys_of}
use Rattle.std.specs.BTreeMap.{insert_entry}
use Rattle.system_keys.specs.declared.change.Change.{Change}
use Rattle.system_keys.specs.declared.change.Change.TheVariants.{Set, Clear}
use Rattle.system_keys.specs.Keys.{Key, Range, holds}
use Rattle.system_keys.specs.Families.{is_kept_key}
use Rattle.model.specs.declared.journal.StateTxn.{StateTxn}
use Rattle.model.specs.declared.journal.JournalRow.{JournalRow}
use Rattle.model.specs.Metadata.{Entry, Entries, IsInOrder, entry_value, after_change, after_changes, is_locked, after_state, after_journal_row}
use Rattle.model.proofs.Metadata.Entries.{states_let_pass, filter_in_order}
use Rattle.model.proofs.Metadata.Changes.{changed_cleared, changed_left}
use Rattle.metadata.specs.Overwrites.{is_same_key, is_listed, has_entry, changes_of, keys_cleared, cleared_keys}
use Rattle.metadata.proofs.KeyValues.{key_cmp, same_entries, value_put}
use Rattle.metadata.proofs.ListedKeys.{filtered_keys}

-- ---- a range is cleared

pub range_removed : (range : Range) (keys : List Key) (old new : Entries) → IsInOrder old → IsInOrder new → keys ≡ keys_of (filter (λ (row : Entry). holds range row.0) old)
    → ((key : Key) → entry_value new key ≡ (if is_listed keys key then None else entry_value old key))
    → new ≡ filter (λ (row : Entry). not (holds range row.0)) old
range_removed range keys old new s t is removed =
    same_entries new (after_change old (Clear range)) t (filter_in_order (λ (row : Entry). not (holds range row.0)) old s) (λ key. removed key ∙ by key (is_listed keys key) refl (holds range key) refl (entry_value old key) refl)
  where
    by : (key : Key) (l : Bool) → is_listed keys key ≡ l → (h : Bool) → holds range key ≡ h → (was : Option (List ℕ)) → entry_value old key ≡ was → (if l then None else entry_value old key) ≡ entry_value (after_change old (Clear range)) key
    by key true e true inside was h = sym (changed_cleared old range key inside)
    by key false e true inside None h = h ∙ sym (changed_cleared old range key inside)
    by key false e true inside (Some value) h =
        let two : false ≡ true = sym e ∙ ap (λ (ks : List Key). is_listed ks key) is ∙ filtered_keys (holds range) old key ∙ rw (inside, h) refl in absurd (cc)
    by key false e false outside was h = sym (changed_left old range key outside)
    by key true e false outside was h =
        let two : true ≡ false = sym e ∙ ap (λ (ks : List Key). is_listed ks key) is ∙ filtered_keys (holds range) old key ∙ rw outside refl in absurd (cc)

-- ---- a row of a journal

-- the change clears the key
abbrev pub clears : Change → Key → Bool
clears (Set k value) key = false
clears (Clear range) key = holds range key

abbrev pub are_clearing : List Change → Key → Bool
are_clearing changes key = list_any (λ (change : Change). clears change key) changes

-- the value of the key is that among those put, or else what it was if nothing cleared it
abbrev pub IsOver : (key : Key) (cleared : Bool) (puts old now : Entries) → Type 0
IsOver key cleared puts old now = entry_value now key ≡ option_or (entry_value puts key) (if cleared then None else entry_value old key)

pub over_change : (change : Change) (key : Key) (cleared : Bool) (puts old now : Entries) → IsOver key cleared puts old now → IsOver key (cleared || clears change key) (after_change puts change) old (after_change now change)
over_change (Set k value) key cleared puts old now is = by (is_kept_key k) cleared is
  where
    set : (s : Bool) (put was before : Option (List ℕ)) → was ≡ option_or put before → (if s then Some value else was) ≡ option_or (if s then Some value else put) before
    set true put was before h = refl
    set false put was before h = h

    by : (t c : Bool) → IsOver key c puts old now → IsOver key (c || false) (if t then insert_entry key_cmp puts k value else puts) old (if t then insert_entry key_cmp now k value else now)
    by false true h = h
    by false false h = h
    by true true h = value_put now k key value ∙ set (is_same_key key k) (entry_value puts key) (entry_value now key) None h ∙ ap (λ (put : Option (List ℕ)). option_or put None) (sym (value_put puts k key value))
    by true false h = value_put now k key value ∙ set (is_same_key key k) (entry_value puts key) (entry_value now key) (entry_value old key) h ∙ ap (λ (put : Option (List ℕ)). option_or put (entry_value old key)) (sym (value_put puts k key value))
over_change (Clear range) key cleared puts old now is = by (holds range key) refl cleared is
  where
    by : (t : Bool) → holds range key ≡ t → (c : Bool) → IsOver key c puts old now → IsOver key (c || holds range key) (after_change puts (Clear range)) old (after_change now (Clear range))
    by true inside true h = rw (changed_cleared now range key inside, changed_cleared puts range key inside) refl
    by true inside false h = rw (changed_cleared now range key inside, changed_cleared puts range key inside, inside) refl
    by false outside true h = rw (changed_left now range key outside, changed_left puts range key outside) h
    by false outside false h = rw (changed_left now range key outside, changed_left puts range key outside, outside) h

either_group : (a b c : Bool) → ((a || b) || c) ≡ (a || (b || c))
either_group true b c = refl
either_group false b c = refl

pub over_changes : (changes : List Change) (key : Key) (cleared : Bool) (puts old now : Entries) → IsOver key cleared puts old now → IsOver key (cleared || are_clearing changes key) (after_changes puts changes) old (after_changes now changes)
over_changes [] key true puts old now is = is
over_changes [] key false puts old now is = is
over_changes (change ∷ changes) key cleared puts old now is =
    subst (λ (t : Bool). IsOver key t (after_changes puts (change ∷ changes)) old (after_changes now (change ∷ changes))) (either_group cleared (clears change key) (are_clearing changes key))
    (over_changes changes key (cleared || clears change key) (after_change puts change) old (after_change now change) (over_change change key cleared puts old now is))

pub listed_both : (xs ys : List Key) (key : Key) → is_listed (xs ++ ys) key ≡ (is_listed xs key || is_listed ys key)
listed_both [] ys key = refl
listed_both (x ∷ xs) ys key = ap (λ (t : Bool). is_same_key key x || t) (listed_both xs ys key) ∙ sym (either_group (is_same_key key x) (is_listed xs key) (is_listed ys key))

pub listed_cleared : (old : Entries) (changes : List Change) (key : Key) → is_listed (cleared_keys old changes) key ≡ (are_clearing changes key && has_entry old key)
listed_cleared old [] key = refl
listed_cleared old (change ∷ changes) key =
    listed_both (keys_cleared old change) (cleared_keys old changes) key
    ∙ ap (λ (t : Bool). t || is_listed (cleared_keys old changes) key) (first change)
    ∙ ap (λ (t : Bool). (clears change key && has_entry old key) || t) (listed_cleared old changes key)
    ∙ join (clears change key) (are_clearing changes key) (has_entry old key)
  where
    first : (change : Change) → is_listed (keys_cleared old change) key ≡ (clears change key && has_entry old key)
    first (Set k value) = refl
    first (Clear range) = filtered_keys (holds range) old key

    join : (a b h : Bool) → ((a && h) || (b && h)) ≡ ((a || b) && h)
    join true true true = refl
    join true true false = refl
    join true false true = refl
    join true false false = refl
    join false b h = refl

pub cleared_or_none : (t : Bool) (was : Option (List ℕ)) → (if t && is_some was then None else was) ≡ (if t then None else was)
cleared_or_none true None = refl
cleared_or_none true (Some value) = refl
cleared_or_none false was = refl

-- a row that makes a single change
pub one_applied : (row : JournalRow) (old new : Entries) (locked : Bool) (states : List StateTxn) (change : Change) → locked ≡ is_locked old → states ≡ row.states
    → changes_of locked states ≡ change ∷ [] → new ≡ after_change old change → new ≡ after_journal_row old row
one_applied row old new locked states change locked_is states_is one is =
    is
    ∙ ap (after_changes old) (sym one)
    ∙ sym (states_let_pass states locked old)
    ∙ ap (λ (l : Bool). fold (after_state l) old states) locked_is
    ∙ ap (fold (after_state (is_locked old)) old) states_is
