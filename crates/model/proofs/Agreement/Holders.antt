-- Columns of verdict cells that grow, holders that meet on a finished batch, rows of a journal up to a version, and the tags of a finished batch.
use Rattle.std.proofs.Common.{◌≡◌, refl, sym, ap, ◌∙◌, subst, ℕ, zero, suc, ◌<◌, ◌⊎◌, inl, inr, List, [], ◌∷◌, ◌++◌, length, take, filter, Bool, true, false, cond, nat_le, slice_get, Some, Contains, arith}
use Rattle.std.proofs.Math.Seq.{take-append_seam}
use Rattle.std.proofs.lemmas.List.{take-append-le}
use Rattle.system_keys.specs.declared.change.Change.{Change}
use Rattle.model.specs.Configs.{Config}
use Rattle.model.specs.declared.journal.JournalRow.{JournalRow}
use Rattle.model.specs.declared.outcome.Outcome.{Outcome}
use Rattle.model.specs.declared.outcome.Outcome.TheVariants.{Committed, Conflict, TooOld, Locked}
use Rattle.model.specs.declared.outcome.Tagged.{Tagged}
use Rattle.model.specs.Transactions.{StampedTransaction}
use Rattle.model.specs.Records.{Record, IsHistory}
use Rattle.model.specs.Verdicts.{share_verdicts}
use Rattle.model.specs.Metadata.{Entries, metadata}
use Rattle.model.specs.Journal.{VerdictSource, AgreeOn, list_at, cell_verdicts, journal_row, journal}
use Rattle.model.specs.Outcomes.{outcomes_after}
use Rattle.model.specs.World.{IsTaggedBy, tagged_from, tagged_one, tagged_all, finished_after, finished_batch, up_to_version}
use Rattle.model.specs.Agreed.{Column, Columns, IsVerdictColumn}
use Rattle.model.proofs.Members.{Has, Has-from_Contains, Has-append_cases}
use Rattle.model.proofs.History.Growth.{push_cases}
use Rattle.model.proofs.Verdicts.Places.{row_at, slice_get-take, slice_get-take_back, take-take_le}
use Rattle.model.proofs.Agreement.Sources.{finished_alike, known_alike}

-- ---- columns

list_at-push : {X : Type 0} (lists : List (List X)) (list : List X) → list_at (lists ++ list ∷ []) (length lists) ≡ list
list_at-push [] list = refl
list_at-push (first ∷ lists) list = list_at-push lists list

list_at-append_left : {X : Type 0} (lists more : List (List X)) (i : ℕ) → i < length lists → list_at (lists ++ more) i ≡ list_at lists i
list_at-append_left [] more i within = absurd (omega arith)
list_at-append_left (first ∷ lists) more zero within = refl
list_at-append_left (first ∷ lists) more (suc i) within = list_at-append_left lists more i (omega arith)

pub column_first : (config : Config) (h : List Record) (r n : ℕ) (column : Column) → IsVerdictColumn config h r column → IsVerdictColumn config (take n h) r column
column_first config h r n column cells i rec at =
    let there = slice_get-take h n i rec at in
    cells i rec there.1 ∙ ap (λ (before : List Record). share_verdicts config r before rec) (sym (take-take_le h i n (omega (arith, there.0))))

pub column_more : (config : Config) (h : List Record) (rec : Record) (r : ℕ) (column : Column) → IsVerdictColumn config h r column → length column ≡ length h → IsVerdictColumn config (h ++ rec ∷ []) r (column ++ share_verdicts config r h rec ∷ [])
column_more config h rec r column cells same i s at = by (push_cases h rec i s at)
  where
    by : ((i ≡ length h) × (rec ≡ s)) ⊎ ((i < length h) × (slice_get h i ≡ Some s)) → list_at (column ++ share_verdicts config r h rec ∷ []) i ≡ share_verdicts config r (take i (h ++ rec ∷ [])) s
    by (inl last) =
        let front : take i (h ++ rec ∷ []) ≡ h = ap (λ (k : ℕ). take k (h ++ rec ∷ [])) last.0 ∙ take-append_seam h (rec ∷ []) in
        let before : h ≡ take i (h ++ rec ∷ []) = sym front in
        let one : rec ≡ s = last.1 in
        ap (list_at (column ++ share_verdicts config r h rec ∷ [])) (last.0 ∙ sym same) ∙ list_at-push column (share_verdicts config r h rec) ∙ (λ j. share_verdicts config r (before j) (one j))
    by (inr sooner) =
        list_at-append_left column (share_verdicts config r h rec ∷ []) i (omega (arith, sooner.0, same)) ∙ cells i s sooner.1
        ∙ ap (λ (before : List Record). share_verdicts config r before s) (sym (take-append-le i h (rec ∷ []) (omega (arith, sooner.0))))

-- ---- two holders

pub finished_meet : (config : Config) (h g : List Record) (mine theirs : Columns) (m i : ℕ) (rec : Record) → IsHistory config h → i < m → take m h ≡ take m g
    → ((r k : ℕ) → r < config.resolvers → k < m → list_at (list_at mine r) k ≡ list_at (list_at theirs r) k) → slice_get h i ≡ Some rec
    → finished_batch config (cell_verdicts config h mine) (take i h) rec ≡ finished_batch config (cell_verdicts config g theirs) (take i g) rec
finished_meet config h g mine theirs m i rec history below same cells at =
    finished_alike config (cell_verdicts config h mine) (cell_verdicts config g theirs) (take i h) rec (λ k s there. let both = slice_get-take h i k s there in alike k s (omega (arith, below, both.0)) both.1) (alike i rec below at)
    ∙ ap (λ (before : List Record). finished_batch config (cell_verdicts config g theirs) before rec) (sym (take-take_le h i m (omega (arith, below))) ∙ ap (take i) same ∙ take-take_le g i m (omega (arith, below)))
  where
    alike : (k : ℕ) (s : Record) → k < m → slice_get h k ≡ Some s → AgreeOn config (cell_verdicts config h mine) (cell_verdicts config g theirs) s
    alike k s within there =
        let in_g : slice_get g k ≡ Some s = (slice_get-take g m k s (ap (λ (rs : List Record). slice_get rs k) (sym same) ∙ slice_get-take_back h m k s within there)).1 in
        known_alike config h g mine theirs k s (row_at config h k s history there) there in_g (λ r resolver. cells r k resolver within)

-- ---- rows of a journal

pub rows_up_to_version : (config : Config) (verdict_by : VerdictSource) (h : List Record) (version : ℕ) → filter (λ (row : JournalRow). nat_le row.version version) (journal config verdict_by h) ≡ journal config verdict_by (up_to_version version h)
unfolding journal journal_row
rows_up_to_version config verdict_by [] version = refl
rows_up_to_version config verdict_by (rec ∷ h) version = by (nat_le rec.version version) (rows_up_to_version config verdict_by h version)
  where
    by : (b : Bool) → filter (λ (row : JournalRow). nat_le row.version version) (journal config verdict_by h) ≡ journal config verdict_by (up_to_version version h)
        → cond b (journal_row config verdict_by rec ∷ filter (λ (row : JournalRow). nat_le row.version version) (journal config verdict_by h)) (filter (λ (row : JournalRow). nat_le row.version version) (journal config verdict_by h)) ≡ journal config verdict_by (cond b (rec ∷ up_to_version version h) (up_to_version version h))
    by true rest = ap (λ (rows : List JournalRow). journal_row config verdict_by rec ∷ rows) rest
    by false rest = rest

-- ---- tags

from_changes : (rows : Entries) (number n : ℕ) (changes : List Change) (x : Tagged) → Has (tagged_from rows number n changes) x → IsTaggedBy rows x
from_changes rows number n [] x has = absurd has
from_changes rows number n (change ∷ changes) x (inl same) = subst (IsTaggedBy rows) same (record { tags = refl; private = refl })
from_changes rows number n (change ∷ changes) x (inr later) = from_changes rows number (suc n) changes x later

from_one : (rows : Entries) (t : StampedTransaction) (outcome : Outcome) (x : Tagged) → Has (tagged_one rows t outcome) x → IsTaggedBy rows x
from_one rows t (Committed version number) x has = from_changes rows number 0 t.changes x has
from_one rows t Conflict x has = absurd has
from_one rows t TooOld x has = absurd has
from_one rows t Locked x has = absurd has

from_all : (rows : Entries) (ts : List StampedTransaction) (outcomes : List Outcome) (x : Tagged) → Has (tagged_all rows ts outcomes) x → IsTaggedBy rows x
from_all rows [] outcomes x has = absurd has
from_all rows (t ∷ ts) [] x has = absurd has
from_all rows (t ∷ ts) (outcome ∷ outcomes) x has = by (Has-append_cases (tagged_one rows t outcome) (tagged_all rows ts outcomes) x has) (from_all rows ts outcomes x)
  where
    by : Has (tagged_one rows t outcome) x ⊎ Has (tagged_all rows ts outcomes) x → (Has (tagged_all rows ts outcomes) x → IsTaggedBy rows x) → IsTaggedBy rows x
    by (inl here) rest = from_one rows t outcome x here
    by (inr later) rest = rest later

pub finished_tags : (config : Config) (verdict_by : VerdictSource) (journal_before : List JournalRow) (rec : Record) (x : Tagged) → Contains (finished_after config verdict_by journal_before rec).tagged x → IsTaggedBy (metadata (journal_before ++ journal_row config verdict_by rec ∷ [])) x
unfolding finished_after
finished_tags config verdict_by journal_before rec x there =
    from_all (metadata (journal_before ++ journal_row config verdict_by rec ∷ [])) rec.batch (outcomes_after config verdict_by journal_before rec) x
    (Has-from_Contains (tagged_all (metadata (journal_before ++ journal_row config verdict_by rec ∷ [])) rec.batch (outcomes_after config verdict_by journal_before rec)) x there)

pub finished_outcomes : (config : Config) (verdict_by : VerdictSource) (journal_before : List JournalRow) (rec : Record) → (finished_after config verdict_by journal_before rec).outcomes ≡ outcomes_after config verdict_by journal_before rec
unfolding finished_after
finished_outcomes config verdict_by journal_before rec = refl
