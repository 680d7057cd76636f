-- The rows of every metadata are in the strict order of their keys; the row of a key; and what a journal's row changes.
use Rattle.std.proofs.Common.{◌≡◌, refl, sym, ap, ◌∙◌, ℕ, List, [], ◌∷◌, ◌++◌, Bool, true, false, cond, not, if◌then◌else◌, fold, filter, flat_map, Ordering, Less, Equal, Greater, nat_cmp}
use Rattle.std.specs.List.{AllByRecursion}
use Rattle.std.specs.List.Sorted.{IsStrictlySortedBy}
use Rattle.std.specs.Map.{keys_of}
use Rattle.std.specs.BTreeMap.{insert_entry}
use Rattle.std.specs.Ordering.{ordering_reverse, match_ordering}
use Rattle.std.specs.Cmp.Lexicographic.{slice_cmp}
use Rattle.std.proofs.lemmas.Cmp.{nat_list_cmp_total}
use Rattle.std.proofs.lemmas.List.Sums.{fold-append}
use Rattle.system_keys.specs.declared.change.Change.{Change}
use Rattle.system_keys.specs.declared.change.Change.TheVariants.{Set, Clear}
use Rattle.system_keys.specs.Keys.{Key, holds}
use Rattle.system_keys.specs.Families.{is_kept_key}
use Rattle.model.specs.declared.journal.StateTxn.{StateTxn}
use Rattle.model.specs.declared.journal.JournalRow.{JournalRow}
use Rattle.model.specs.Metadata.{Entry, Entries, IsInOrder, after_change, after_changes, is_applied, after_state, after_journal_row, metadata, is_locked, applied_changes}

-- ---- a fold keeps what each step keeps

pub fold_keeps : {A B : Type 0} (P : B → Type 0) (f : B → A → B) → ((b : B) (a : A) → P b → P (f b a)) → (b : B) (xs : List A) → P b → P (fold f b xs)
fold_keeps P f step b [] h = h
fold_keeps P f step b (x ∷ xs) h = fold_keeps P f step (f b x) xs (step b x h)

-- ---- the order of the rows

abbrev pub key_cmp : Key → Key → Ordering
key_cmp = slice_cmp nat_cmp

-- each key of the list is after this one
abbrev Behind : Key → List Key → Type 0
Behind key keys = AllByRecursion (λ (other : Key). key_cmp key other ≡ Less) keys

behind_trans : (a b : Key) (keys : List Key) → key_cmp a b ≡ Less → Behind b keys → Behind a keys
behind_trans a b [] h all = tt
behind_trans a b (k ∷ keys) h all = (nat_list_cmp_total.trans a b k h all.0, behind_trans a b keys h all.1)

behind_insert : (a : Key) (rows : Entries) (key : Key) (value : List ℕ) → key_cmp a key ≡ Less → Behind a (keys_of rows) → Behind a (keys_of (insert_entry key_cmp rows key value))
behind_insert a [] key value h all = (h, tt)
behind_insert a (e ∷ rows) key value h all = by (key_cmp key e.0) (behind_insert a rows key value h all.1)
  where
    by : (r : Ordering) → Behind a (keys_of (insert_entry key_cmp rows key value)) → Behind a (keys_of (match_ordering r ((key, value) ∷ e ∷ rows) ((e.0, value) ∷ rows) (e ∷ insert_entry key_cmp rows key value)))
    by Less rest = (h, all)
    by Equal rest = all
    by Greater rest = (all.0, rest)

turned : (a b : Key) → key_cmp a b ≡ Greater → key_cmp b a ≡ Less
turned a b h = nat_list_cmp_total.antisymm b a ∙ ap ordering_reverse h

insert_in_order : (rows : Entries) (key : Key) (value : List ℕ) → IsInOrder rows → IsInOrder (insert_entry key_cmp rows key value)
unfolding IsStrictlySortedBy
insert_in_order [] key value s = (tt, tt)
insert_in_order (e ∷ rows) key value s = by (key_cmp key e.0) refl (insert_in_order rows key value s.1)
  where
    by : (r : Ordering) → key_cmp key e.0 ≡ r → IsInOrder (insert_entry key_cmp rows key value) → IsInOrder (match_ordering r ((key, value) ∷ e ∷ rows) ((e.0, value) ∷ rows) (e ∷ insert_entry key_cmp rows key value))
    by Less h rest = ((h, behind_trans key e.0 (keys_of rows) h s.0), s)
    by Equal h rest = s
    by Greater h rest = (behind_insert e.0 rows key value (turned key e.0 h) s.0, rest)

behind_filter : (a : Key) (p : Entry → Bool) (rows : Entries) → Behind a (keys_of rows) → Behind a (keys_of (filter p rows))
behind_filter a p [] all = tt
behind_filter a p (e ∷ rows) all = by (p e) (behind_filter a p rows all.1)
  where
    by : (t : Bool) → Behind a (keys_of (filter p rows)) → Behind a (keys_of (cond t (e ∷ filter p rows) (filter p rows)))
    by true rest = (all.0, rest)
    by false rest = rest

pub filter_in_order : (p : Entry → Bool) (rows : Entries) → IsInOrder rows → IsInOrder (filter p rows)
unfolding IsStrictlySortedBy
filter_in_order p [] s = tt
filter_in_order p (e ∷ rows) s = by (p e) (behind_filter e.0 p rows s.0) (filter_in_order p rows s.1)
  where
    by : (t : Bool) → Behind e.0 (keys_of (filter p rows)) → IsInOrder (filter p rows) → IsInOrder (cond t (e ∷ filter p rows) (filter p rows))
    by true first rest = (first, rest)
    by false first rest = rest

pub changed_in_order : (rows : Entries) (change : Change) → IsInOrder rows → IsInOrder (after_change rows change)
changed_in_order rows (Set key value) s = by (is_kept_key key)
  where
    by : (t : Bool) → IsInOrder (if t then insert_entry key_cmp rows key value else rows)
    by true = insert_in_order rows key value s
    by false = s
changed_in_order rows (Clear range) s = filter_in_order (λ (row : Entry). not (holds range row.0)) rows s

pub after_changes_in_order : (rows : Entries) (changes : List Change) → IsInOrder rows → IsInOrder (after_changes rows changes)
after_changes_in_order rows changes s = fold_keeps IsInOrder after_change changed_in_order rows changes s

after_state_in_order : (locked : Bool) (rows : Entries) (t : StateTxn) → IsInOrder rows → IsInOrder (after_state locked rows t)
after_state_in_order locked rows t s = by (is_applied locked t)
  where
    by : (b : Bool) → IsInOrder (if b then after_changes rows t.mutations else rows)
    by true = after_changes_in_order rows t.mutations s
    by false = s

pub after_row_in_order : (rows : Entries) (row : JournalRow) → IsInOrder rows → IsInOrder (after_journal_row rows row)
after_row_in_order rows row s = fold_keeps IsInOrder _ (λ now t. after_state_in_order _ now t) rows row.states s

-- the rows of every metadata are in the strict order of their keys
pub metadata_in_order : (journal : List JournalRow) → IsInOrder (metadata journal)
unfolding metadata IsStrictlySortedBy
metadata_in_order journal = fold_keeps IsInOrder after_journal_row after_row_in_order [] journal tt

-- ---- the journal

pub metadata_append : (j k : List JournalRow) → metadata (j ++ k) ≡ fold after_journal_row (metadata j) k
unfolding metadata
metadata_append j k = fold-append after_journal_row [] j k

-- what a row does: it makes the changes that are let pass, by the lock before it
pub states_let_pass : (states : List StateTxn) (locked : Bool) (rows : Entries) → fold (after_state locked) rows states ≡ after_changes rows (flat_map (λ (t : StateTxn). t.mutations) (filter (is_applied locked) states))
states_let_pass [] locked rows = refl
states_let_pass (t ∷ states) locked rows = by (is_applied locked t) (states_let_pass states locked (after_changes rows t.mutations)) (states_let_pass states locked rows)
  where
    by : (b : Bool) → fold (after_state locked) (after_changes rows t.mutations) states ≡ after_changes (after_changes rows t.mutations) (flat_map (λ (t : StateTxn). t.mutations) (filter (is_applied locked) states))
        → fold (after_state locked) rows states ≡ after_changes rows (flat_map (λ (t : StateTxn). t.mutations) (filter (is_applied locked) states))
        → fold (after_state locked) (if b then after_changes rows t.mutations else rows) states ≡ after_changes rows (flat_map (λ (t : StateTxn). t.mutations) (cond b (t ∷ filter (is_applied locked) states) (filter (is_applied locked) states)))
    by true passed rest = passed ∙ sym (fold-append after_change rows t.mutations (flat_map (λ (t : StateTxn). t.mutations) (filter (is_applied locked) states)))
    by false passed rest = rest

pub row_let_pass : (rows : Entries) (row : JournalRow) → after_journal_row rows row ≡ after_changes rows (applied_changes (is_locked rows) row)
row_let_pass rows row = states_let_pass row.states (is_locked rows) rows
