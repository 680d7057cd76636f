-- The rule of commit key by key and for the lock row, and what committed transactions are told.
use Rattle.std.proofs.Common.{◌≡◌, refl, sym, ap, ◌∙◌, subst, ℕ, zero, suc, ◌<◌, List, [], ◌∷◌, ◌++◌, take, ◌⊎◌, inl, inr, Bool, true, false, ◌&&◌, not, slice_get, Some, Contains, IsTrue, IsFalse, Ordering, Equal, Greater, is_lt, nat_cmp, arith}
use Rattle.std.specs.Ordering.{ordering_then}
use Rattle.std.specs.Cmp.Lexicographic.{slice_cmp}
use Rattle.std.proofs.lemmas.Bool.{and_from, and_parts, cases_order, le-ltb, ne_eqb}
use Rattle.std.proofs.lemmas.Cmp.{nat_cmp_total, tied_itself}
use Rattle.system_keys.specs.Keys.{Key, Range, Overlap, is_key_below, holds, only}
use Rattle.system_keys.proofs.KeyOrder.{equal_unless_below}
use Rattle.system_keys.proofs.KeyLaws.{inside_from_holds}
use Rattle.model.specs.Configs.{Config}
use Rattle.model.specs.declared.verdict.Verdict.{Verdict}
use Rattle.model.specs.declared.verdict.Verdict.TheVariants as verdicts
use Rattle.model.specs.declared.outcome.Outcome.{Outcome}
use Rattle.model.specs.declared.outcome.Outcome.TheVariants.{Committed}
use Rattle.model.specs.Transactions.{StampedTransaction, is_state_transaction, lock_read, all_reads, locked_key}
use Rattle.model.specs.Records.{Record}
use Rattle.model.specs.Metadata.{is_locked, metadata}
use Rattle.model.specs.Journal.{history_verdicts, journal}
use Rattle.model.specs.Outcomes.{joined_verdict, is_refused, outcome_of_verdict, outcome, outcomes}
use Rattle.model.specs.Serial.{Place, IsSerial}
use Rattle.model.specs.Committed.{IsSerialByKeys, SerialIsByKeys, WritesLockRow, WritingTheLockRowIsOverlap, SerialKeepsTheLockRow, HistoriesKeepTheLockRow, ALockStopsPlainStateTransactions, CommittedIsTold, ToldNumbersAreItsOwn}
use Rattle.model.proofs.Members.{Contains-from_Has, Has-append_right}
use Rattle.model.proofs.Agreement.Sources.{outcomes_at}
use Rattle.model.proofs.Serializability.Histories.{history_is_serial}

-- ---- the rule key by key

pub serial_by_keys : SerialIsByKeys
serial_by_keys config h = (to, from)
  where
    to : IsSerial config h → IsSerialByKeys config h
    to serial a b committed_a committed_b between key written read =
        serial a b committed_a committed_b between written.range read.range written.range_in read.range_in
        (record { key = key; shared = and_from (holds written.range key) (holds read.range key) written.inside read.inside })

    from : IsSerialByKeys config h → IsSerial config h
    from by_keys a b committed_a committed_b between write read write_in read_in overlap =
        let both = and_parts (holds write overlap.key) (holds read overlap.key) overlap.shared in
        by_keys a b committed_a committed_b between overlap.key
        (record { range = write; range_in = write_in; inside = both.0 })
        (record { range = read; range_in = read_in; inside = both.1 })

-- ---- the range of one key

greater_is : (x y : ℕ) → y < x → nat_cmp x y ≡ Greater
greater_is x y above = rw (le-ltb x y (omega arith), ne_eqb x y (λ (same : x ≡ y). omega (arith, same))) refl

-- no key lies between a key and the next one
none_before_the_next : (a b : Key) → is_key_below b (a ++ 0 ∷ []) ≡ true → is_key_below a b ≡ false
none_before_the_next [] [] below = refl
none_before_the_next [] (zero ∷ []) below = absurd (cc)
none_before_the_next [] (zero ∷ y ∷ b) below = absurd (cc)
none_before_the_next [] (suc y ∷ b) below =
    let no : false ≡ true = subst (λ (o : Ordering). is_lt (ordering_then o (slice_cmp nat_cmp b [])) ≡ true) (greater_is (suc y) 0 (omega arith)) below in
    absurd (cc)
none_before_the_next (x ∷ a) [] below = refl
none_before_the_next (x ∷ a) (y ∷ b) below = by (cases_order x y) (none_before_the_next a b)
  where
    by : (x ≡ y) ⊎ ((x < y) ⊎ (y < x)) → (is_key_below b (a ++ 0 ∷ []) ≡ true → is_key_below a b ≡ false) → is_key_below (x ∷ a) (y ∷ b) ≡ false
    by (inl same) rest =
        let tied : nat_cmp y y ≡ Equal = tied_itself nat_cmp_total y in
        let below_here : nat_cmp y x ≡ Equal = ap (λ (z : ℕ). nat_cmp y z) same ∙ tied in
        let here : nat_cmp x y ≡ Equal = ap (λ (z : ℕ). nat_cmp z y) same ∙ tied in
        let later : is_key_below b (a ++ 0 ∷ []) ≡ true = subst (λ (o : Ordering). is_lt (ordering_then o (slice_cmp nat_cmp b (a ++ 0 ∷ []))) ≡ true) below_here below in
        subst (λ (o : Ordering). is_lt (ordering_then o (slice_cmp nat_cmp a b)) ≡ false) (sym here) (rest later)
    by (inr (inl less)) rest =
        let no : false ≡ true = subst (λ (o : Ordering). is_lt (ordering_then o (slice_cmp nat_cmp b (a ++ 0 ∷ []))) ≡ true) (greater_is y x less) below in
        absurd (cc)
    by (inr (inr greater)) rest = subst (λ (o : Ordering). is_lt (ordering_then o (slice_cmp nat_cmp a b)) ≡ false) (sym (greater_is x y greater)) refl

only_holds_its_key : (key other : Key) → holds (only key) other ≡ true → other ≡ key
only_holds_its_key key other inside =
    let parts = inside_from_holds (only key) other inside in
    equal_unless_below other key parts.begun (none_before_the_next key other parts.ended)

-- ---- the lock row

pub writing_the_lock_row_is_overlap : WritingTheLockRowIsOverlap
writing_the_lock_row_is_overlap t = (to, from)
  where
    to : WritesLockRow t → (write : Range) × Contains t.writes write × Overlap write (only locked_key)
    to writes = (
      writes.write,
      writes.write_in,
      record { key = locked_key; shared = and_from (holds writes.write locked_key) (holds (only locked_key) locked_key) writes.over refl },
    )

    from : (write : Range) × Contains t.writes write × Overlap write (only locked_key) → WritesLockRow t
    from (write, there, overlap) =
        let both = and_parts (holds write overlap.key) (holds (only locked_key) overlap.key) overlap.shared in
        record { write = write; write_in = there; over = subst (λ (key : Key). holds write key ≡ true) (only_holds_its_key locked_key overlap.key both.1) both.0 }

-- a state transaction that is not lock aware reads the lock row
reads_lock_row : (t : StampedTransaction) → is_state_transaction t ≡ true → t.lock_aware ≡ false → Contains (all_reads t) (only locked_key)
reads_lock_row t state plain =
    Contains-from_Has (all_reads t) (only locked_key)
    (Has-append_right t.reads (lock_read (is_state_transaction t && not t.lock_aware)) (only locked_key) (rw (state, plain) (inl refl)))

pub serial_keeps_the_lock_row : SerialKeepsTheLockRow
serial_keeps_the_lock_row config h serial a b committed_a committed_b between writes = by (is_state_transaction b.transaction) refl b.transaction.lock_aware refl
  where
    by : (state : Bool) → is_state_transaction b.transaction ≡ state → (aware : Bool) → b.transaction.lock_aware ≡ aware → IsFalse (is_state_transaction b.transaction) ⊎ IsTrue b.transaction.lock_aware
    by false plain aware is = inl plain
    by true state true aware = inr aware
    by true state false plain =
        absurd
        (serial a b committed_a committed_b between writes.write (only locked_key) writes.write_in (reads_lock_row b.transaction state plain)
        (record { key = locked_key; shared = and_from (holds writes.write locked_key) (holds (only locked_key) locked_key) writes.over refl }))

pub histories_keep_the_lock_row : HistoriesKeepTheLockRow
histories_keep_the_lock_row config h limits history = serial_keeps_the_lock_row config h (history_is_serial config h limits history)

pub a_lock_stops_plain_state_transactions : ALockStopsPlainStateTransactions
a_lock_stops_plain_state_transactions config h a b kept committed_a between written state plain committed_b =
    by (kept a b committed_a committed_b between (record { write = written.range; write_in = written.range_in; over = written.inside }))
  where
    by : IsFalse (is_state_transaction b.transaction) ⊎ IsTrue b.transaction.lock_aware → ⊥
    by (inl other) = let both : true ≡ false = sym state ∙ other in absurd (cc)
    by (inr aware) = let both : true ≡ false = sym aware ∙ plain in absurd (cc)

-- ---- what is told

told_at : (config : Config) (h : List Record) (a : Place h) → slice_get (outcomes config (history_verdicts config h) (take a.i h) a.rec) a.n ≡ Some (outcome config (history_verdicts config h) (is_locked (metadata (journal config (history_verdicts config h) (take a.i h)))) a.rec a.n a.transaction)
told_at config h a = outcomes_at config (history_verdicts config h) (take a.i h) a.rec a.n a.transaction a.transaction_is

pub committed_is_told : CommittedIsTold
committed_is_told config h a = (
  λ committed. told_at config h a ∙ ap (λ (o : Outcome). Some o) committed,
  λ told. let same : Some (outcome config (history_verdicts config h) (is_locked (metadata (journal config (history_verdicts config h) (take a.i h)))) a.rec a.n a.transaction) ≡ Some (Committed a.rec.version a.n) = sym (told_at config h a) ∙ told in cc,
)

numbers_of_outcome : (v : Verdict) (refused : Bool) (version number other_version other : ℕ) → outcome_of_verdict v refused version number ≡ Committed other_version other → (other_version ≡ version) × (other ≡ number)
numbers_of_outcome verdicts.Conflict refused version number other_version other e = absurd (cc)
numbers_of_outcome verdicts.TooOld refused version number other_version other e = absurd (cc)
numbers_of_outcome verdicts.Committed true version number other_version other e = absurd (cc)
numbers_of_outcome verdicts.Committed false version number other_version other e = (cc, cc)

pub told_numbers_are_its_own : ToldNumbersAreItsOwn
unfolding outcome
told_numbers_are_its_own config h a version number told =
    numbers_of_outcome (joined_verdict config (history_verdicts config h) a.rec a.n a.transaction) (is_refused (is_locked (metadata (journal config (history_verdicts config h) (take a.i h)))) a.transaction) a.rec.version a.n version number
    (let same : Some (outcome config (history_verdicts config h) (is_locked (metadata (journal config (history_verdicts config h) (take a.i h)))) a.rec a.n a.transaction) ≡ Some (Committed version number) = sym (told_at config h a) ∙ told in cc)
