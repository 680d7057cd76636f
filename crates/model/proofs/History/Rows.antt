-- Rows one by one: of a journal, of a history and of a finished batch.
use Rattle.std.proofs.Common.{◌≡◌, refl, sym, ap, ◌∙◌, subst, ℕ, zero, suc, ◌*◌, ◌<◌, ◌≤◌, inl, inr, List, [], ◌∷◌, ◌++◌, length, map, filter, take, slice_get, Some, Contains}
use Rattle.std.proofs.lemmas.List.{length-map}
use Rattle.model.specs.Configs.{Config}
use Rattle.model.specs.declared.journal.JournalRow.{JournalRow}
use Rattle.model.specs.Records.{Record, IsHistory, last_version}
use Rattle.model.specs.Journal.{VerdictSource, journal_row, journal, reply_row_of, HaveVerdictCount, is_after}
use Rattle.model.specs.World.{finished_after, up_to_version}
use Rattle.model.proofs.History.Chain.{version_before, up_to_front_are}
use Rattle.model.proofs.Members.{Has, Has-from_Contains, Contains-from_Has}
use Rattle.model.proofs.Journals.ReplyRows.{row_verdicts, told_exact, split_at_version}

-- ---- a journal

pub journal_counted : (config : Config) (verdict_by : VerdictSource) (h : List Record) → length (journal config verdict_by h) ≡ length h
unfolding journal
journal_counted config verdict_by h = length-map h (journal_row config verdict_by)

pub record_row : (config : Config) (verdict_by : VerdictSource) (h : List Record) (k : ℕ) (rec : Record) → slice_get h k ≡ Some rec → slice_get (journal config verdict_by h) k ≡ Some (journal_row config verdict_by rec)
unfolding journal
record_row config verdict_by [] k rec at = absurd (cc)
record_row config verdict_by (s ∷ h) zero rec at =
    let same : s ≡ rec = cc in
    ap (λ (r : Record). Some (journal_row config verdict_by r)) same
record_row config verdict_by (s ∷ h) (suc k) rec at = record_row config verdict_by h k rec at

row_version : (config : Config) (verdict_by : VerdictSource) (rec : Record) → (journal_row config verdict_by rec).version ≡ rec.version
unfolding journal_row
row_version config verdict_by rec = refl

pub row_record : (config : Config) (verdict_by : VerdictSource) (h : List Record) (k : ℕ) (row : JournalRow) → slice_get (journal config verdict_by h) k ≡ Some row
    → (rec : Record) × (slice_get h k ≡ Some rec) × (row ≡ journal_row config verdict_by rec) × (row.version ≡ rec.version)
unfolding journal
row_record config verdict_by [] k row at = absurd (cc)
row_record config verdict_by (rec ∷ h) zero row at =
    let same : row ≡ journal_row config verdict_by rec = cc in
    (rec, refl, same, ap (λ (r : JournalRow). r.version) same ∙ row_version config verdict_by rec)
row_record config verdict_by (rec ∷ h) (suc k) row at = row_record config verdict_by h k row at

has_verdicts : (config : Config) (verdict_by : VerdictSource) (h : List Record) (row : JournalRow) → Has (journal config verdict_by h) row → HaveVerdictCount config.resolvers row
unfolding journal
has_verdicts config verdict_by [] row has = absurd has
has_verdicts config verdict_by (rec ∷ h) row (inl same) = subst (HaveVerdictCount config.resolvers) same (row_verdicts config verdict_by rec)
has_verdicts config verdict_by (rec ∷ h) row (inr later) = has_verdicts config verdict_by h row later

pub all_verdicts : (config : Config) (verdict_by : VerdictSource) (h : List Record) (row : JournalRow) → Contains (journal config verdict_by h) row → HaveVerdictCount config.resolvers row
all_verdicts config verdict_by h row there = has_verdicts config verdict_by h row (Has-from_Contains (journal config verdict_by h) row there)

-- no rows are replied as some are
not_none : (r : ℕ) (row : JournalRow) (rows : List JournalRow) → map (reply_row_of r) [] ≡ map (reply_row_of r) (row ∷ rows) → ⊥
not_none r row rows same = cc

told_alike : (resolvers : ℕ) (rows others : List JournalRow) → 0 < resolvers → ((row : JournalRow) → Has rows row → HaveVerdictCount resolvers row) → ((row : JournalRow) → Has others row → HaveVerdictCount resolvers row)
    → ((r : ℕ) → r < resolvers → map (reply_row_of r) rows ≡ map (reply_row_of r) others) → rows ≡ others
told_alike resolvers [] [] some in_rows in_others each = refl
told_alike resolvers [] (y ∷ ys) some in_rows in_others each = absurd (not_none 0 y ys (each 0 some))
told_alike resolvers (x ∷ xs) [] some in_rows in_others each = absurd (not_none 0 x xs (sym (each 0 some)))
told_alike resolvers (x ∷ xs) (y ∷ ys) some in_rows in_others each =
    λ i. told_exact resolvers x y some (in_rows x (inl refl)) (in_others y (inl refl)) (λ r below. let told = each r below in cc) i
    ∷ told_alike resolvers xs ys some (λ row has. in_rows row (inr has)) (λ row has. in_others row (inr has)) (λ r below. let told = each r below in cc) i

pub rows_exact : (resolvers : ℕ) (rows others : List JournalRow) → 0 < resolvers → ((row : JournalRow) → Contains rows row → HaveVerdictCount resolvers row) → ((row : JournalRow) → Contains others row → HaveVerdictCount resolvers row)
    → ((r : ℕ) → r < resolvers → map (reply_row_of r) rows ≡ map (reply_row_of r) others) → rows ≡ others
rows_exact resolvers rows others some in_rows in_others each =
    told_alike resolvers rows others some (λ row has. in_rows row (Contains-from_Has rows row has)) (λ row has. in_others row (Contains-from_Has others row has)) each

-- ---- a history

pub split_at_row : (config : Config) (h : List Record) (n version : ℕ) → 1 ≤ config.step → IsHistory config h → n ≤ length h → version ≡ n * config.step → take n h ++ filter (is_after version) h ≡ h
split_at_row config h n version stepping history within is =
    let at : last_version (take n h) ≡ version = version_before config h n history within ∙ sym is in
    let first : up_to_version version h ≡ take n h = ap (λ (v : ℕ). up_to_version v h) (sym at) ∙ up_to_front_are config h n stepping history within in
    ap (λ (rs : List Record). rs ++ filter (is_after version) h) (sym first) ∙ split_at_version config h version history

-- ---- a finished batch

pub finished_row : (config : Config) (verdict_by : VerdictSource) (journal_before : List JournalRow) (rec : Record) → (finished_after config verdict_by journal_before rec).row ≡ rec.row
unfolding finished_after
finished_row config verdict_by journal_before rec = refl

pub finished_version_is : (config : Config) (verdict_by : VerdictSource) (journal_before : List JournalRow) (rec : Record) → (finished_after config verdict_by journal_before rec).version ≡ rec.version
unfolding finished_after
finished_version_is config verdict_by journal_before rec = refl
