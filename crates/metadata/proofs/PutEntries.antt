-- What rows of a journal change, one after another.
use Rattle.std.proofs.Common.{◌≡◌, refl, sym, ap, ◌∙◌, ℕ, ◌+◌, ◌<◌, length, drop, get_or, add-one, List, [], ◌∷◌, Bool, true, false, if◌then◌else◌, ◌&&◌, ◌||◌, fold, Option, Some, None}
use Rattle.std.specs.Option.{is_some, option_or}
use Rattle.system_keys.specs.declared.change.Change.{Change}
use Rattle.system_keys.specs.Keys.{Key}
use Rattle.model.specs.Transactions.{locked_key}
use Rattle.model.specs.declared.journal.StateTxn.{StateTxn}
use Rattle.model.specs.declared.journal.JournalRow.{JournalRow}
use Rattle.model.specs.Metadata.{Entries, entry_value, is_filled, is_locked, after_changes, after_state, after_journal_row}
use Rattle.model.proofs.Metadata.Entries.{states_let_pass, after_row_in_order}
use Rattle.model.proofs.Metadata.Changes.{kept_after_row}
use Rattle.metadata.specs.Started.{after_rows}
use Rattle.metadata.proofs.KeptInOrder.{AreKeptInOrder}
use Rattle.std.proofs.Math.Seq.{drop-cons}
use Rattle.metadata.specs.Overwrites.{is_listed, has_entry, changes_of, cleared_keys, IsOverwritten}
use Rattle.metadata.proofs.OverwrittenEntries.{are_clearing, listed_cleared, over_changes}

-- ---- one row more

cleared_more : (cleared more : Bool) (was : Option (List ℕ)) → (if (more && is_some was) || cleared then None else was) ≡ (if cleared || more then None else was)
cleared_more true true None = refl
cleared_more true true (Some value) = refl
cleared_more true false was = refl
cleared_more false true None = refl
cleared_more false true (Some value) = refl
cleared_more false false was = refl

pub row_staged : (row : JournalRow) (before after old now : Entries) (cleared more all : List Key) (locked : Bool) (states : List StateTxn)
    → locked ≡ is_locked now → states ≡ row.states → after ≡ fold (after_state locked) before states → ((key : Key) → is_listed more key ≡ is_listed (cleared_keys old (changes_of locked states)) key)
    → ((key : Key) → is_listed all key ≡ (is_listed more key || is_listed cleared key))
    → IsOverwritten cleared before old now → IsOverwritten all after old (after_journal_row now row)
row_staged row before after old now cleared more all locked states lock states_is after_is more_is all_is over = λ key.
    ap (λ (l : Bool). entry_value (fold (after_state l) now row.states) key) (sym lock)
    ∙ ap (λ (list : List StateTxn). entry_value (fold (after_state locked) now list) key) (sym states_is)
    ∙ ap (λ (entries : Entries). entry_value entries key) (states_let_pass states locked now)
    ∙ over_changes changes key (is_listed cleared key) before old now (over key)
    ∙ ap (option_or (entry_value (after_changes before changes) key)) (sym (cleared_more (is_listed cleared key) (are_clearing changes key) (entry_value old key)))
    ∙ ap (λ (t : Bool). option_or (entry_value (after_changes before changes) key) (if t then None else entry_value old key)) (sym (listed key))
    ∙ ap (λ (entries : Entries). option_or (entry_value entries key) (if is_listed all key then None else entry_value old key)) (sym (after_is ∙ states_let_pass states locked before))
  where
    changes : List Change
    changes = changes_of locked states

    listed : (key : Key) → is_listed all key ≡ ((are_clearing changes key && has_entry old key) || is_listed cleared key)
    listed key = all_is key ∙ ap (λ (t : Bool). t || is_listed cleared key) (more_is key ∙ listed_cleared old changes key)

-- ---- several rows

pub rows_next : (rows : List JournalRow) (row : JournalRow) (i : ℕ) (now all : Entries) → i < length rows → row ≡ get_or rows i row → after_rows now (drop i rows) ≡ all → after_rows (after_journal_row now row) (drop (i + 1) rows) ≡ all
rows_next rows row i now all within at is =
    let split : drop i rows ≡ get_or rows i row ∷ drop (i + 1) rows = rw (add-one, drop-cons rows i row) in
    ap (λ (r : JournalRow). after_rows (after_journal_row now r) (drop (i + 1) rows)) at ∙ ap (after_rows now) (sym split) ∙ is

pub rows_kept_in_order : (rows : List JournalRow) (entries : Entries) → AreKeptInOrder entries → AreKeptInOrder (after_rows entries rows)
rows_kept_in_order [] entries fine = fine
rows_kept_in_order (row ∷ rows) entries fine = rows_kept_in_order rows (after_journal_row entries row) (after_row_in_order entries row fine.0, kept_after_row entries row fine.1)

pub row_kept : (row : JournalRow) (entries : Entries) → AreKeptInOrder entries → AreKeptInOrder (after_journal_row entries row)
row_kept row entries fine = (after_row_in_order entries row fine.0, kept_after_row entries row fine.1)

-- ---- rows that are started

-- the lock after rows, by what they change
pub lock_staged : (cleared : List Key) (puts old now : Entries) (locked : Bool) → locked ≡ is_filled (option_or (entry_value puts locked_key) (if is_listed cleared locked_key then None else entry_value old locked_key)) → IsOverwritten cleared puts old now → locked ≡ is_locked now
lock_staged cleared puts old now locked is over = is ∙ ap is_filled (sym (over locked_key))
