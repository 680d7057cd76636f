-- Outcomes, finished batches and told rows by two sayings that are alike.
use Rattle.std.proofs.Common.{◌≡◌, refl, ℕ, suc, ◌+◌, List, [], ◌∷◌, ◌++◌, Bool, true, false, if◌then◌else◌, slice_get, Some, arith}
use Rattle.model.specs.Configs.{Config}
use Rattle.model.specs.declared.journal.JournalRow.{JournalRow}
use Rattle.model.specs.Transactions.{StampedTransaction, is_state_transaction}
use Rattle.model.specs.Records.{Record}
use Rattle.model.specs.Shares.{asks}
use Rattle.model.specs.Metadata.{is_locked, metadata}
use Rattle.model.specs.Journal.{VerdictSource, AgreeOn, journal_row, carried_to, reply_states_from, reply_row, is_after, unseen}
use Rattle.model.specs.Outcomes.{outcomes_after}
use Rattle.model.specs.World.{tagged_all, finished_after}
use Rattle.model.proofs.Shares.Askers.{journal_row_alike}
use Rattle.model.proofs.Agreement.Sources.{outcomes_from_alike, map_passing}

-- the transactions of a list stand in a batch from number n on
abbrev From : List StampedTransaction → ℕ → List StampedTransaction → Type 0
From batch n ts = (k : ℕ) (t : StampedTransaction) → slice_get ts k ≡ Some t → slice_get batch (n + k) ≡ Some t

from_here : (batch : List StampedTransaction) (n : ℕ) (t : StampedTransaction) (ts : List StampedTransaction) → From batch n (t ∷ ts) → slice_get batch n ≡ Some t
from_here batch n t ts at = let same : n + 0 ≡ n = omega arith in rw same at (at 0 t refl)

from_next : (batch : List StampedTransaction) (n : ℕ) (t : StampedTransaction) (ts : List StampedTransaction) → From batch n (t ∷ ts) → From batch (suc n) ts
from_next batch n t ts at k u there = let same : suc n + k ≡ n + suc k = omega arith in rw same (at (suc k) u there)

from_whole : (batch : List StampedTransaction) → From batch 0 batch
from_whole batch k t there = let same : 0 + k ≡ k = omega arith in rw same there

-- ---- outcomes

pub outcomes_after_alike : (config : Config) (verdict_by other : VerdictSource) (journal_before : List JournalRow) (rec : Record) → AgreeOn config verdict_by other rec → outcomes_after config verdict_by journal_before rec ≡ outcomes_after config other journal_before rec
unfolding outcomes_after
outcomes_after_alike config verdict_by other journal_before rec alike = outcomes_from_alike config verdict_by other (is_locked (metadata journal_before)) rec 0 rec.batch alike (from_whole rec.batch)

pub finished_after_alike : (config : Config) (verdict_by other : VerdictSource) (journal_before : List JournalRow) (rec : Record) → AgreeOn config verdict_by other rec → finished_after config verdict_by journal_before rec ≡ finished_after config other journal_before rec
unfolding finished_after
finished_after_alike config verdict_by other journal_before rec alike =
    let own : journal_row config verdict_by rec ≡ journal_row config other rec = journal_row_alike config verdict_by other rec alike in
    let answers : outcomes_after config verdict_by journal_before rec ≡ outcomes_after config other journal_before rec = outcomes_after_alike config verdict_by other journal_before rec alike in
    λ i. record { row = rec.row; version = rec.version; outcomes = answers i; tagged = tagged_all (metadata (journal_before ++ own i ∷ [])) rec.batch (answers i) }

-- ---- what one resolver tells

-- of the transactions of the record that ask the resolver, it says the same
abbrev OneSaysAlike : Config → VerdictSource → VerdictSource → ℕ → Record → Type 0
OneSaysAlike config verdict_by other r rec = (n : ℕ) (t : StampedTransaction) → slice_get rec.batch n ≡ Some t → asks config rec r t ≡ true → verdict_by r rec.row n ≡ other r rec.row n

told_some : (config : Config) (verdict_by other : VerdictSource) (r : ℕ) (rec : Record) (n : ℕ) (ts : List StampedTransaction) → OneSaysAlike config verdict_by other r rec → From rec.batch n ts → reply_states_from verdict_by r rec n ts ≡ reply_states_from other r rec n ts
told_some config verdict_by other r rec n [] alike at = refl
told_some config verdict_by other r rec n (t ∷ ts) alike at = by (is_state_transaction t) refl (told_some config verdict_by other r rec (suc n) ts alike (from_next rec.batch n t ts at))
  where
    by : (b : Bool) → is_state_transaction t ≡ b → reply_states_from verdict_by r rec (suc n) ts ≡ reply_states_from other r rec (suc n) ts
        → (if b then (record { verdict = verdict_by r rec.row n; carried = carried_to r t }) ∷ reply_states_from verdict_by r rec (suc n) ts else reply_states_from verdict_by r rec (suc n) ts) ≡ (if b then (record { verdict = other r rec.row n; carried = carried_to r t }) ∷ reply_states_from other r rec (suc n) ts else reply_states_from other r rec (suc n) ts)
    by true state rest =
        let same : verdict_by r rec.row n ≡ other r rec.row n = alike n t (from_here rec.batch n t ts at) (rw state) in
        λ i. (record { verdict = same i; carried = carried_to r t }) ∷ rest i
    by false none rest = rest

pub told_row_of_one : (config : Config) (verdict_by other : VerdictSource) (r : ℕ) (rec : Record) → OneSaysAlike config verdict_by other r rec → reply_row verdict_by r rec ≡ reply_row other r rec
unfolding reply_row
told_row_of_one config verdict_by other r rec alike =
    let states = told_some config verdict_by other r rec 0 rec.batch alike (from_whole rec.batch) in
    λ i. record { version = rec.version; states = states i }

pub unseen_of_one : (config : Config) (verdict_by other : VerdictSource) (r : ℕ) (before : List Record) (rec : Record) → ((k : ℕ) (s : Record) → slice_get before k ≡ Some s → OneSaysAlike config verdict_by other r s) → unseen verdict_by r before rec ≡ unseen other r before rec
unfolding unseen
unseen_of_one config verdict_by other r before rec alike = map_passing (reply_row verdict_by r) (reply_row other r) (is_after rec.own_previous) before (λ k s at. told_row_of_one config verdict_by other r s (alike k s at))
