-- What a change does at each key, and that only kept keys have rows.
use Rattle.std.proofs.Common.{◌≡◌, refl, sym, ap, ◌∙◌, subst, ℕ, List, [], ◌∷◌, Bool, true, false, cond, not, if◌then◌else◌, Some, None, Option, Ordering, Less, Equal, Greater, is_eq, inl, inr}
use Rattle.std.specs.BTreeMap.{insert_entry, is_at}
use Rattle.std.specs.Ordering.{match_ordering}
use Rattle.std.proofs.lemmas.Cmp.{tied_itself, nat_list_cmp_total}
use Rattle.std.proofs.lemmas.Map.Entries.{lookup-filter-keys}
use Rattle.std.proofs.lemmas.Map.Lookups.{exact_bytes}
use Rattle.system_keys.specs.declared.change.Change.{Change}
use Rattle.system_keys.specs.declared.change.Change.TheVariants.{Set, Clear}
use Rattle.system_keys.specs.Keys.{Key, Range, holds}
use Rattle.system_keys.specs.Families.{is_kept_key}
use Rattle.model.specs.declared.journal.StateTxn.{StateTxn}
use Rattle.model.specs.declared.journal.JournalRow.{JournalRow}
use Rattle.model.specs.Metadata.{Entry, Entries, AreKept, entry_value, after_change, after_changes, is_applied, after_state, after_journal_row, metadata, is_locked}
use Rattle.model.proofs.Members.{Has, Has-from_Contains, Contains-from_Has, Has-from_filter}
use Rattle.model.proofs.Metadata.Entries.{fold_keeps, key_cmp}

-- ---- a Set

inserted_at : (rows : Entries) (key : Key) (value : List ℕ) → entry_value (insert_entry key_cmp rows key value) key ≡ Some value
inserted_at [] key value = ap (λ (r : Ordering). cond (is_eq r) (Some value) None) (tied_itself nat_list_cmp_total key)
inserted_at (e ∷ rows) key value = by (key_cmp key e.0) refl (inserted_at rows key value)
  where
    by : (r : Ordering) → key_cmp key e.0 ≡ r → entry_value (insert_entry key_cmp rows key value) key ≡ Some value → entry_value (match_ordering r ((key, value) ∷ e ∷ rows) ((e.0, value) ∷ rows) (e ∷ insert_entry key_cmp rows key value)) key ≡ Some value
    by Less is rest = ap (λ (r : Ordering). cond (is_eq r) (Some value) (entry_value (e ∷ rows) key)) (tied_itself nat_list_cmp_total key)
    by Equal is rest = ap (λ (r : Ordering). cond (is_eq r) (Some value) (entry_value rows key)) is
    by Greater is rest = ap (λ (r : Ordering). cond (is_eq r) (Some e.1) (entry_value (insert_entry key_cmp rows key value) key)) is ∙ rest

pub changed_set : (rows : Entries) (key : Key) (value : List ℕ) → is_kept_key key ≡ true → entry_value (after_change rows (Set key value)) key ≡ Some value
changed_set rows key value kept = ap (λ (t : Bool). entry_value (if t then insert_entry key_cmp rows key value else rows) key) kept ∙ inserted_at rows key value

pub changed_not_kept : (rows : Entries) (key : Key) (value : List ℕ) → is_kept_key key ≡ false → after_change rows (Set key value) ≡ rows
changed_not_kept rows key value other = ap (λ (t : Bool). if t then insert_entry key_cmp rows key value else rows) other

-- two keys that differ do not compare as equal
apart : (k key : Key) → ¬ (k ≡ key) → is_eq (key_cmp k key) ≡ false
apart k key differ = by (key_cmp k key) refl
  where
    by : (r : Ordering) → key_cmp k key ≡ r → is_eq r ≡ false
    by Less is = refl
    by Equal is = absurd (differ (exact_bytes k key is))
    by Greater is = refl

inserted_elsewhere : (rows : Entries) (key other : Key) (value : List ℕ) → ¬ (other ≡ key) → entry_value (insert_entry key_cmp rows key value) other ≡ entry_value rows other
inserted_elsewhere [] key other value differ = ap (λ (t : Bool). cond t (Some value) None) (apart other key differ)
inserted_elsewhere (e ∷ rows) key other value differ = by (key_cmp key e.0) refl (inserted_elsewhere rows key other value differ)
  where
    by : (r : Ordering) → key_cmp key e.0 ≡ r → entry_value (insert_entry key_cmp rows key value) other ≡ entry_value rows other → entry_value (match_ordering r ((key, value) ∷ e ∷ rows) ((e.0, value) ∷ rows) (e ∷ insert_entry key_cmp rows key value)) other ≡ entry_value (e ∷ rows) other
    by Less is rest = ap (λ (t : Bool). cond t (Some value) (entry_value (e ∷ rows) other)) (apart other key differ)
    by Equal is rest =
        let away : is_eq (key_cmp other e.0) ≡ false = apart other e.0 (λ (same : other ≡ e.0). differ (same ∙ sym (exact_bytes key e.0 is))) in
        ap (λ (t : Bool). cond t (Some value) (entry_value rows other)) away ∙ sym (ap (λ (t : Bool). cond t (Some e.1) (entry_value rows other)) away)
    by Greater is rest = ap (λ (found : Option (List ℕ)). cond (is_eq (key_cmp other e.0)) (Some e.1) found) rest

pub changed_other : (rows : Entries) (key other : Key) (value : List ℕ) → ¬ (other ≡ key) → entry_value (after_change rows (Set key value)) other ≡ entry_value rows other
changed_other rows key other value differ = by (is_kept_key key)
  where
    by : (t : Bool) → entry_value (if t then insert_entry key_cmp rows key value else rows) other ≡ entry_value rows other
    by true = inserted_elsewhere rows key other value differ
    by false = refl

-- ---- a Clear

tied : (r : Ordering) → is_eq r ≡ true → r ≡ Equal
tied Less h = absurd (cc)
tied Equal h = refl
tied Greater h = absurd (cc)

cleared_at : (rows : Entries) (range : Range) (key : Key) → entry_value (after_change rows (Clear range)) key ≡ cond (not (holds range key)) (entry_value rows key) None
cleared_at rows range key =
    lookup-filter-keys (is_at (key_cmp key)) (λ (k : Key). not (holds range k)) (not (holds range key)) (λ k same. ap (λ (q : Key). not (holds range q)) (sym (exact_bytes key k (tied (key_cmp key k) same)))) rows

pub changed_cleared : (rows : Entries) (range : Range) (key : Key) → holds range key ≡ true → entry_value (after_change rows (Clear range)) key ≡ None
changed_cleared rows range key inside = cleared_at rows range key ∙ ap (λ (t : Bool). cond (not t) (entry_value rows key) None) inside

pub changed_left : (rows : Entries) (range : Range) (key : Key) → holds range key ≡ false → entry_value (after_change rows (Clear range)) key ≡ entry_value rows key
changed_left rows range key outside = cleared_at rows range key ∙ ap (λ (t : Bool). cond (not t) (entry_value rows key) None) outside

-- ---- only kept keys have rows

-- the same, by members
abbrev Kept : Entries → Type 0
Kept rows = (row : Entry) → Has rows row → is_kept_key row.0 ≡ true

inserted_kept : (rows : Entries) (key : Key) (value : List ℕ) → is_kept_key key ≡ true → Kept rows → Kept (insert_entry key_cmp rows key value)
inserted_kept [] key value own all row (inl same) = subst (λ (r : Entry). is_kept_key r.0 ≡ true) same own
inserted_kept [] key value own all row (inr none) = absurd none
inserted_kept (e ∷ rows) key value own all row has = by (key_cmp key e.0) (inserted_kept rows key value own (λ r there. all r (inr there)) row) has
  where
    by : (r : Ordering) → (Has (insert_entry key_cmp rows key value) row → is_kept_key row.0 ≡ true) → Has (match_ordering r ((key, value) ∷ e ∷ rows) ((e.0, value) ∷ rows) (e ∷ insert_entry key_cmp rows key value)) row → is_kept_key row.0 ≡ true
    by Less rest (inl same) = subst (λ (r : Entry). is_kept_key r.0 ≡ true) same own
    by Less rest (inr there) = all row there
    by Equal rest (inl same) = subst (λ (r : Entry). is_kept_key r.0 ≡ true) same (all e (inl refl))
    by Equal rest (inr there) = all row (inr there)
    by Greater rest (inl same) = all row (inl same)
    by Greater rest (inr there) = rest there

changed_kept : (rows : Entries) (change : Change) → Kept rows → Kept (after_change rows change)
changed_kept rows (Set key value) all = by (is_kept_key key) refl
  where
    by : (t : Bool) → is_kept_key key ≡ t → Kept (if t then insert_entry key_cmp rows key value else rows)
    by true own = inserted_kept rows key value own all
    by false other = all
changed_kept rows (Clear range) all = λ row has. all row (Has-from_filter (λ (r : Entry). not (holds range r.0)) rows row has).0

state_kept : (locked : Bool) (rows : Entries) (t : StateTxn) → Kept rows → Kept (after_state locked rows t)
state_kept locked rows t all = by (is_applied locked t)
  where
    by : (b : Bool) → Kept (if b then after_changes rows t.mutations else rows)
    by true = fold_keeps Kept after_change changed_kept rows t.mutations all
    by false = all

row_kept : (rows : Entries) (row : JournalRow) → Kept rows → Kept (after_journal_row rows row)
row_kept rows row all = fold_keeps Kept (after_state (is_locked rows)) (λ now t. state_kept (is_locked rows) now t) rows row.states all

to_members : (rows : Entries) → AreKept rows → Kept rows
to_members rows all = λ row has. all row (Contains-from_Has rows row has)

from_members : (rows : Entries) → Kept rows → AreKept rows
from_members rows all = λ row there. all row (Has-from_Contains rows row there)

pub kept_after_change : (rows : Entries) (change : Change) → AreKept rows → AreKept (after_change rows change)
kept_after_change rows change all = from_members (after_change rows change) (changed_kept rows change (to_members rows all))

pub kept_after_row : (rows : Entries) (row : JournalRow) → AreKept rows → AreKept (after_journal_row rows row)
kept_after_row rows row all = from_members (after_journal_row rows row) (row_kept rows row (to_members rows all))

pub metadata_kept : (journal : List JournalRow) → AreKept (metadata journal)
unfolding metadata
metadata_kept journal = from_members (metadata journal) (fold_keeps Kept after_journal_row row_kept [] journal (λ row none. absurd none))
