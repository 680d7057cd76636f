-- A lock that is held: it is in the metadata, and refuses what is not lock aware.
use Rattle.std.proofs.Common.{◌≡◌, refl, sym, ap, ◌∙◌, subst, ℕ, zero, suc, ◌+◌, ◌<◌, ◌≤◌, ◌⊎◌, inl, inr, List, [], ◌∷◌, ◌++◌, map, length, take, filter, fold, Bool, true, false, ◌&&◌, ◌||◌, not, if◌then◌else◌, slice_get, Some, Contains, arith}
use Rattle.std.specs.List.{list_all}
use Rattle.std.proofs.lemmas.Bool.{and_parts, and_from, cases_order}
use Rattle.std.proofs.lemmas.List.{take_all}
use Rattle.std.proofs.lemmas.List.Elements.{filter-append}
use Rattle.std.proofs.lemmas.List.Sums.{fold-append}
use Rattle.std.proofs.lemmas.Option.{same_Some, slice_get_within}
use Rattle.system_keys.specs.declared.change.Change.{Change}
use Rattle.system_keys.specs.declared.change.Change.TheVariants.{Set, Clear}
use Rattle.system_keys.specs.Changes.{is_state}
use Rattle.system_keys.specs.Families.{kind_of, is_kept_key}
use Rattle.model.specs.Configs.{Config}
use Rattle.model.specs.declared.journal.JournalRow.{JournalRow}
use Rattle.model.specs.declared.outcome.Outcome.{Outcome}
use Rattle.model.specs.declared.outcome.Outcome.TheVariants.{Committed, Locked}
use Rattle.model.specs.declared.verdict.Verdict.{Verdict}
use Rattle.model.specs.declared.verdict.Verdict.TheVariants as verdicts
use Rattle.model.specs.Transactions.{StampedTransaction, is_state_transaction, locked_key}
use Rattle.model.specs.Records.{Record, oldest}
use Rattle.model.specs.Shares.{each_below, asks_back_to, asked}
use Rattle.model.specs.Verdicts.{is_committed, joined}
use Rattle.model.specs.Metadata.{Entries, entry_value, is_filled, is_locked, after_change, after_changes, is_applied, after_state, metadata}
use Rattle.model.specs.Journal.{VerdictSource, history_verdicts, state_of, states_from, journal_row, journal}
use Rattle.model.specs.Outcomes.{joined_verdict, outcome_of_verdict, outcome}
use Rattle.model.specs.Serial.{Place}
use Rattle.model.specs.Locks.{LeavesLockRow, LockTheDatabase, IsLockHeld, AHeldLockIsInTheMetadata, AHeldLockRefusesThePlain}
use Rattle.model.proofs.Members.{Has, Has-from_Contains, Contains-from_Has, list_any-from_Has, Has-from_filter, Has-split}
use Rattle.model.proofs.Agreement.Sources.{journal_push, outcomes_at}
use Rattle.model.proofs.History.Chain.{element_at, filter_every}
use Rattle.model.proofs.Metadata.Changes.{changed_set, changed_other, changed_left}
use Rattle.model.proofs.Metadata.Entries.{metadata_append}
use Rattle.model.proofs.Resolvers.Requests.{take_suc}
use Rattle.model.proofs.Resolvers.RequestRules.{state_asks}
use Rattle.model.proofs.Verdicts.Joined.{least_of_committed}

-- ---- the lock row after some changes

locked_key_is_kept : is_kept_key locked_key ≡ true
unfolding kind_of
locked_key_is_kept = refl

some_value_locks : (value : List ℕ) → ¬ (value ≡ []) → is_filled (Some value) ≡ true
some_value_locks [] some = absurd (some refl)
some_value_locks (byte ∷ bytes) some = refl

lock_row_left : (entries : Entries) (change : Change) → LeavesLockRow change → entry_value (after_change entries change) locked_key ≡ entry_value entries locked_key
lock_row_left entries (Set key value) other = changed_other entries key locked_key value (λ same. other (sym same))
lock_row_left entries (Clear range) outside = changed_left entries range locked_key outside

lock_row_left_by_all : (entries : Entries) (changes : List Change) → ((change : Change) → Has changes change → LeavesLockRow change) → entry_value (after_changes entries changes) locked_key ≡ entry_value entries locked_key
lock_row_left_by_all entries [] each = refl
lock_row_left_by_all entries (change ∷ changes) each =
    lock_row_left_by_all (after_change entries change) changes (λ other has. each other (inr has)) ∙ lock_row_left entries change (each change (inl refl))

locked_after : (entries : Entries) (changes : List Change) → LockTheDatabase changes → is_locked (after_changes entries changes) ≡ true
locked_after entries changes locks =
    let between : Entries = after_changes entries locks.before in
    let value : entry_value (after_changes entries changes) locked_key ≡ Some locks.value =
    ap (λ (made : List Change). entry_value (after_changes entries made) locked_key) locks.changes_are
    ∙ ap (λ (now : Entries). entry_value now locked_key) (fold-append after_change entries locks.before (Set locked_key locks.value ∷ locks.after))
    ∙ lock_row_left_by_all (after_change between (Set locked_key locks.value)) locks.after (λ change has. locks.kept change (Contains-from_Has locks.after change has))
    ∙ changed_set between locked_key locks.value locked_key_is_kept in
    ap is_filled value ∙ some_value_locks locks.value locks.filled

-- the state mutations of a transaction that locks the database lock it
state_mutations_lock : (changes : List Change) → LockTheDatabase changes → LockTheDatabase (filter is_state changes)
state_mutations_lock changes locks =
    record {
      before = filter is_state locks.before;
      value = locks.value;
      after = filter is_state locks.after;
      changes_are = ap (filter is_state) locks.changes_are ∙ filter-append is_state locks.before (Set locked_key locks.value ∷ locks.after);
      filled = locks.filled;
      kept = λ change there. locks.kept change (Contains-from_Has locks.after change (Has-from_filter is_state locks.after change (Has-from_Contains (filter is_state locks.after) change there)).0);
    }

locking_is_state : (t : StampedTransaction) → LockTheDatabase t.changes → is_state_transaction t ≡ true
locking_is_state t locks =
    list_any-from_Has is_state t.changes (Set locked_key locks.value)
    (subst (λ (changes : List Change). Has changes (Set locked_key locks.value)) (sym locks.changes_are) (Has-split locks.before locks.after (Set locked_key locks.value)))
    refl

-- ---- a state transaction is applied exactly if it is committed

joined_of_all : (vs : List Verdict) → list_all is_committed vs ≡ true → joined vs ≡ verdicts.Committed
joined_of_all [] all = refl
joined_of_all (verdicts.Conflict ∷ vs) all = absurd (cc)
joined_of_all (verdicts.TooOld ∷ vs) all = absurd (cc)
joined_of_all (verdicts.Committed ∷ vs) all = joined_of_all vs all

all_of_joined : (vs : List Verdict) → joined vs ≡ verdicts.Committed → list_all is_committed vs ≡ true
all_of_joined [] is = refl
all_of_joined (verdicts.Conflict ∷ vs) is = absurd (cc)
all_of_joined (verdicts.TooOld ∷ vs) is = let first = (least_of_committed verdicts.TooOld (joined vs) is).0 in absurd (cc)
all_of_joined (verdicts.Committed ∷ vs) is = all_of_joined vs is

not_refused : (aware locked : Bool) → (aware || not locked) ≡ true → (not aware && locked) ≡ false
not_refused true locked free = refl
not_refused false true free = absurd (cc)
not_refused false false free = refl

let_through : (aware locked : Bool) → (not aware && locked) ≡ false → (aware || not locked) ≡ true
let_through true locked free = refl
let_through false true free = absurd (cc)
let_through false false free = refl

parts_of_committed : (v : Verdict) (refused : Bool) (version number : ℕ) → outcome_of_verdict v refused version number ≡ Committed version number → (v ≡ verdicts.Committed) × (refused ≡ false)
parts_of_committed verdicts.Conflict refused version number is = absurd (cc)
parts_of_committed verdicts.TooOld refused version number is = absurd (cc)
parts_of_committed verdicts.Committed true version number is = absurd (cc)
parts_of_committed verdicts.Committed false version number is = (refl, refl)

-- a state transaction asks every resolver
asked_are_all : (config : Config) (rec : Record) (t : StampedTransaction) → is_state_transaction t ≡ true → asked config rec t ≡ each_below config.resolvers
asked_are_all config rec t state = filter_every (λ (r : ℕ). asks_back_to (oldest config rec) rec r t) (each_below config.resolvers) (λ k r at. state_asks (oldest config rec) rec r t state)

-- the verdicts of some resolvers on transaction n of the record
abbrev said : VerdictSource → Record → (n : ℕ) → List ℕ → List Verdict
said verdict_by rec n rs = map (λ (r : ℕ). verdict_by r rec.row n) rs

committed_if_applied : (config : Config) (verdict_by : VerdictSource) (locked : Bool) (rec : Record) (n : ℕ) (t : StampedTransaction) → is_state_transaction t ≡ true → is_applied locked (state_of config verdict_by rec n t) ≡ true → outcome config verdict_by locked rec n t ≡ Committed rec.version n
unfolding outcome joined_verdict
committed_if_applied config verdict_by locked rec n t state applied =
    let both = and_parts (list_all is_committed (said verdict_by rec n (each_below config.resolvers))) (t.lock_aware || not locked) applied in
    let all : joined (said verdict_by rec n (asked config rec t)) ≡ verdicts.Committed =
    ap (λ (rs : List ℕ). joined (said verdict_by rec n rs)) (asked_are_all config rec t state) ∙ joined_of_all (said verdict_by rec n (each_below config.resolvers)) both.0 in
    let free : (not t.lock_aware && locked) ≡ false = not_refused t.lock_aware locked both.1 in
    λ i. outcome_of_verdict (all i) (free i) rec.version n

applied_if_committed : (config : Config) (verdict_by : VerdictSource) (locked : Bool) (rec : Record) (n : ℕ) (t : StampedTransaction) → is_state_transaction t ≡ true → outcome config verdict_by locked rec n t ≡ Committed rec.version n → is_applied locked (state_of config verdict_by rec n t) ≡ true
unfolding outcome joined_verdict
applied_if_committed config verdict_by locked rec n t state committed =
    let parts = parts_of_committed (joined (said verdict_by rec n (asked config rec t))) (not t.lock_aware && locked) rec.version n committed in
    let all : joined (said verdict_by rec n (each_below config.resolvers)) ≡ verdicts.Committed =
    ap (λ (rs : List ℕ). joined (said verdict_by rec n rs)) (sym (asked_are_all config rec t state)) ∙ parts.0 in
    and_from (list_all is_committed (said verdict_by rec n (each_below config.resolvers))) (t.lock_aware || not locked)
    (all_of_joined (said verdict_by rec n (each_below config.resolvers)) all) (let_through t.lock_aware locked parts.1)

-- ---- the state transactions of one record

-- each committed one of these transactions, numbered from n, leaves the lock row as it is
abbrev LeaveLockRow : Config → VerdictSource → (locked : Bool) → Record → (n : ℕ) → List StampedTransaction → Type 0
LeaveLockRow config verdict_by locked rec n ts =
    (k : ℕ) (t : StampedTransaction) (number : ℕ) (change : Change) → slice_get ts k ≡ Some t → number ≡ n + k
    → outcome config verdict_by locked rec number t ≡ Committed rec.version number → Contains t.changes change → LeavesLockRow change

after_one_left : (config : Config) (verdict_by : VerdictSource) (locked : Bool) (rec : Record) (n : ℕ) (t : StampedTransaction) (entries : Entries) → is_state_transaction t ≡ true
    → (outcome config verdict_by locked rec n t ≡ Committed rec.version n → (change : Change) → Contains t.changes change → LeavesLockRow change)
    → is_locked entries ≡ true → is_locked (after_state locked entries (state_of config verdict_by rec n t)) ≡ true
after_one_left config verdict_by locked rec n t entries state leaves held = by (is_applied locked (state_of config verdict_by rec n t)) refl
  where
    by : (b : Bool) → is_applied locked (state_of config verdict_by rec n t) ≡ b → is_locked (if b then after_changes entries (filter is_state t.changes) else entries) ≡ true
    by true applied =
        ap is_filled (lock_row_left_by_all entries (filter is_state t.changes)
        (λ change has. leaves (committed_if_applied config verdict_by locked rec n t state applied) change (Contains-from_Has t.changes change (Has-from_filter is_state t.changes change has).0)))
        ∙ held
    by false refused = held

after_states_left : (config : Config) (verdict_by : VerdictSource) (locked : Bool) (rec : Record) (n : ℕ) (ts : List StampedTransaction) (entries : Entries) → LeaveLockRow config verdict_by locked rec n ts → is_locked entries ≡ true
    → is_locked (fold (after_state locked) entries (states_from config verdict_by rec n ts)) ≡ true
after_states_left config verdict_by locked rec n [] entries leave held = held
after_states_left config verdict_by locked rec n (t ∷ ts) entries leave held =
    by (is_state_transaction t) refl (λ (now : Entries) (is : is_locked now ≡ true). after_states_left config verdict_by locked rec (suc n) ts now (λ k s number change at sum. leave (suc k) s number change at (omega (arith, sum))) is)
  where
    by : (b : Bool) → is_state_transaction t ≡ b → ((now : Entries) → is_locked now ≡ true → is_locked (fold (after_state locked) now (states_from config verdict_by rec (suc n) ts)) ≡ true)
        → is_locked (fold (after_state locked) entries (if b then state_of config verdict_by rec n t ∷ states_from config verdict_by rec (suc n) ts else states_from config verdict_by rec (suc n) ts)) ≡ true
    by true state rest =
        rest (after_state locked entries (state_of config verdict_by rec n t))
        (after_one_left config verdict_by locked rec n t entries state (λ committed change there. leave 0 t n change refl (omega arith) committed there) held)
    by false plain rest = rest entries held

after_one_locked : (config : Config) (verdict_by : VerdictSource) (locked : Bool) (rec : Record) (n : ℕ) (t : StampedTransaction) (entries : Entries) → outcome config verdict_by locked rec n t ≡ Committed rec.version n → LockTheDatabase t.changes
    → is_locked (after_state locked entries (state_of config verdict_by rec n t)) ≡ true
after_one_locked config verdict_by locked rec n t entries committed locks =
    ap (λ (b : Bool). is_locked (if b then after_changes entries (filter is_state t.changes) else entries)) (applied_if_committed config verdict_by locked rec n t (locking_is_state t locks) committed)
    ∙ locked_after entries (filter is_state t.changes) (state_mutations_lock t.changes locks)

-- one of the transactions locks the database, and the committed ones after it leave the lock row
after_states_locked : (config : Config) (verdict_by : VerdictSource) (locked : Bool) (rec : Record) (n : ℕ) (ts : List StampedTransaction) (k : ℕ) (t : StampedTransaction) (number : ℕ) (entries : Entries)
    → slice_get ts k ≡ Some t → number ≡ n + k → outcome config verdict_by locked rec number t ≡ Committed rec.version number → LockTheDatabase t.changes
    → ((m : ℕ) (s : StampedTransaction) (other : ℕ) (change : Change) → k < m → slice_get ts m ≡ Some s → other ≡ n + m → outcome config verdict_by locked rec other s ≡ Committed rec.version other → Contains s.changes change → LeavesLockRow change)
    → is_locked (fold (after_state locked) entries (states_from config verdict_by rec n ts)) ≡ true
after_states_locked config verdict_by locked rec n [] k t number entries at sum committed locks later = absurd (cc)
after_states_locked config verdict_by locked rec n (u ∷ ts) zero t number entries at sum committed locks later = by (is_state_transaction u) refl
  where
    same : t ≡ u
    same = sym (same_Some u t at)

    number_is : number ≡ n
    number_is = omega (arith, sum)

    own : LockTheDatabase u.changes
    own = subst (λ (s : StampedTransaction). LockTheDatabase s.changes) same locks

    own_committed : outcome config verdict_by locked rec n u ≡ Committed rec.version n
    own_committed = subst (λ (m : ℕ). outcome config verdict_by locked rec m u ≡ Committed rec.version m) number_is (subst (λ (s : StampedTransaction). outcome config verdict_by locked rec number s ≡ Committed rec.version number) same committed)

    by : (b : Bool) → is_state_transaction u ≡ b
        → is_locked (fold (after_state locked) entries (if b then state_of config verdict_by rec n u ∷ states_from config verdict_by rec (suc n) ts else states_from config verdict_by rec (suc n) ts)) ≡ true
    by true state =
        after_states_left config verdict_by locked rec (suc n) ts (after_state locked entries (state_of config verdict_by rec n u))
        (λ m s other change there is. later (suc m) s other change (omega arith) there (omega (arith, is)))
        (after_one_locked config verdict_by locked rec n u entries own_committed own)
    by false plain = let state = locking_is_state u own in absurd (cc)
after_states_locked config verdict_by locked rec n (u ∷ ts) (suc k) t number entries at sum committed locks later =
    by (is_state_transaction u)
    (λ (now : Entries).
    after_states_locked config verdict_by locked rec (suc n) ts k t number now at (omega (arith, sum)) committed locks
    (λ m s other change after there is. later (suc m) s other change (omega (arith, after)) there (omega (arith, is))))
  where
    by : (b : Bool) → ((now : Entries) → is_locked (fold (after_state locked) now (states_from config verdict_by rec (suc n) ts)) ≡ true)
        → is_locked (fold (after_state locked) entries (if b then state_of config verdict_by rec n u ∷ states_from config verdict_by rec (suc n) ts else states_from config verdict_by rec (suc n) ts)) ≡ true
    by true rest = rest (after_state locked entries (state_of config verdict_by rec n u))
    by false rest = rest entries

-- ---- the records before another

-- the lock in the metadata after the first i records
abbrev lock_before : Config → (h : List Record) (i : ℕ) → Bool
lock_before config h i = is_locked (metadata (journal config (history_verdicts config h) (take i h)))

-- the fold of one row more
lock_after_row : (config : Config) (verdict_by : VerdictSource) (rows : List JournalRow) (rec : Record) → metadata (rows ++ journal_row config verdict_by rec ∷ []) ≡ fold (after_state (is_locked (metadata rows))) (metadata rows) (states_from config verdict_by rec 0 rec.batch)
unfolding journal_row
lock_after_row config verdict_by rows rec = metadata_append rows (journal_row config verdict_by rec ∷ [])

lock_after_record : (config : Config) (h : List Record) (k : ℕ) (rec : Record) → slice_get h k ≡ Some rec
    → lock_before config h (suc k) ≡ is_locked (fold (after_state (lock_before config h k)) (metadata (journal config (history_verdicts config h) (take k h))) (states_from config (history_verdicts config h) rec 0 rec.batch))
lock_after_record config h k rec at =
    ap (λ (front : List Record). is_locked (metadata (journal config (history_verdicts config h) front))) (sym (take_suc h k rec at))
    ∙ ap (λ (rows : List JournalRow). is_locked (metadata rows)) (journal_push config (history_verdicts config h) (take k h) rec)
    ∙ ap is_locked (lock_after_row config (history_verdicts config h) (journal config (history_verdicts config h) (take k h)) rec)

-- before the record before, if the lock was set earlier
held_before : (config : Config) (h : List Record) (k : ℕ) (held : IsLockHeld config h (suc k)) → held.a.i < k → IsLockHeld config h k
held_before config h k held earlier =
    record {
      a = held.a;
      earlier = earlier;
      committed = held.committed;
      locks = held.locks;
      held = λ c change after below. held.held c change after (omega (arith, below));
    }

abbrev place_at : (h : List Record) (k n : ℕ) (rec : Record) (t : StampedTransaction) → slice_get h k ≡ Some rec → slice_get rec.batch n ≡ Some t → Place h
place_at h k n rec t at there = record { i = k; n = n; rec = rec; transaction = t; record_is = at; transaction_is = there }

-- the record sets the lock, or one before it did
locked_by_record : (config : Config) (h : List Record) (k : ℕ) (rec : Record) (held : IsLockHeld config h (suc k)) → slice_get h k ≡ Some rec → (held.a.i < k → lock_before config h k ≡ true) → lock_before config h (suc k) ≡ true
locked_by_record config h k rec held at earlier_locked = lock_after_record config h k rec at ∙ by (cases_order held.a.i k)
  where
    by : (held.a.i ≡ k) ⊎ ((held.a.i < k) ⊎ (k < held.a.i))
        → is_locked (fold (after_state (lock_before config h k)) (metadata (journal config (history_verdicts config h) (take k h))) (states_from config (history_verdicts config h) rec 0 rec.batch)) ≡ true
    by (inl same) =
        let one : held.a.rec ≡ rec = same_Some held.a.rec rec (sym held.a.record_is ∙ ap (slice_get h) same ∙ at) in
        let there : slice_get rec.batch held.a.n ≡ Some held.a.transaction = ap (λ (r : Record). slice_get r.batch held.a.n) (sym one) ∙ held.a.transaction_is in
        let of_row : outcome config (history_verdicts config h) (lock_before config h held.a.i) rec held.a.n held.a.transaction ≡ Committed rec.version held.a.n =
        subst (λ (r : Record). outcome config (history_verdicts config h) (lock_before config h held.a.i) r held.a.n held.a.transaction ≡ Committed r.version held.a.n) one held.committed in
        let committed : outcome config (history_verdicts config h) (lock_before config h k) rec held.a.n held.a.transaction ≡ Committed rec.version held.a.n =
        subst (λ (i : ℕ). outcome config (history_verdicts config h) (lock_before config h i) rec held.a.n held.a.transaction ≡ Committed rec.version held.a.n) same of_row in
        after_states_locked config (history_verdicts config h) (lock_before config h k) rec 0 rec.batch held.a.n held.a.transaction held.a.n (metadata (journal config (history_verdicts config h) (take k h))) there (omega arith) committed held.locks
        (λ m s other change after s_there is other_committed in_s.
        let number : other ≡ m = omega (arith, is) in
        held.held (place_at h k m rec s at s_there) change (inl (same, after)) (omega arith)
        (subst (λ (n : ℕ). outcome config (history_verdicts config h) (lock_before config h k) rec n s ≡ Committed rec.version n) number other_committed) in_s)
    by (inr (inl earlier)) =
        after_states_left config (history_verdicts config h) (lock_before config h k) rec 0 rec.batch (metadata (journal config (history_verdicts config h) (take k h)))
        (λ m s other change s_there is other_committed in_s.
        let number : other ≡ m = omega (arith, is) in
        held.held (place_at h k m rec s at s_there) change (inr earlier) (omega arith)
        (subst (λ (n : ℕ). outcome config (history_verdicts config h) (lock_before config h k) rec n s ≡ Committed rec.version n) number other_committed) in_s)
        (earlier_locked earlier)
    by (inr (inr past)) = let below = held.earlier in absurd (omega (arith, below, past))

pub a_held_lock_is_in_the_metadata : AHeldLockIsInTheMetadata
a_held_lock_is_in_the_metadata config h zero held = let below = held.earlier in absurd (omega (arith, below))
a_held_lock_is_in_the_metadata config h (suc k) held = by (cases_order k (length h)) (λ (earlier : held.a.i < k). a_held_lock_is_in_the_metadata config h k (held_before config h k held earlier))
  where
    -- past the end there is no further record
    past : length h ≤ k → (held.a.i < k → lock_before config h k ≡ true) → lock_before config h (suc k) ≡ true
    past end rest =
        let within : held.a.i < length h = slice_get_within h held.a.i held.a.rec held.a.record_is in
        ap (λ (front : List Record). is_locked (metadata (journal config (history_verdicts config h) front))) (take_all (suc k) h (omega (arith, end)) ∙ sym (take_all k h end))
        ∙ rest (omega (arith, within, end))

    by : (k ≡ length h) ⊎ ((k < length h) ⊎ (length h < k)) → (held.a.i < k → lock_before config h k ≡ true) → lock_before config h (suc k) ≡ true
    by (inl same) rest = past (omega (arith, same)) rest
    by (inr (inl within)) rest = let last = element_at h k within in locked_by_record config h k last.0 held last.1 rest
    by (inr (inr beyond)) rest = past (omega (arith, beyond)) rest

-- ---- whom it refuses

refused_by_lock : (config : Config) (verdict_by : VerdictSource) (locked : Bool) (rec : Record) (n : ℕ) (t : StampedTransaction) → locked ≡ true → t.lock_aware ≡ false → joined_verdict config verdict_by rec n t ≡ verdicts.Committed → outcome config verdict_by locked rec n t ≡ Locked
unfolding outcome
refused_by_lock config verdict_by locked rec n t held plain all = λ i. outcome_of_verdict (all i) (not (plain i) && held i) rec.version n

pub a_held_lock_refuses_the_plain : AHeldLockRefusesThePlain
a_held_lock_refuses_the_plain config h b held plain all =
    outcomes_at config (history_verdicts config h) (take b.i h) b.rec b.n b.transaction b.transaction_is
    ∙ ap (λ (o : Outcome). Some o) (refused_by_lock config (history_verdicts config h) (lock_before config h b.i) b.rec b.n b.transaction (a_held_lock_is_in_the_metadata config h b.i held) plain all)
