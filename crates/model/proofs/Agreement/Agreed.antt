-- What a holder knows that is agreed up to a row.
use Rattle.std.proofs.Common.{◌≡◌, refl, ap, ◌∙◌, ℕ, zero, suc, ◌<◌, ◌≤◌, List, [], ◌∷◌, length, take, arith}
use Rattle.std.proofs.lemmas.List.{length-map, length-take}
use Rattle.std.specs.Prelude.{slice_get, Some}
use Rattle.model.specs.Configs.{Config}
use Rattle.model.specs.declared.verdict.Verdict.{Verdict}
use Rattle.model.specs.declared.journal.JournalRow.{JournalRow}
use Rattle.model.specs.Records.{Record}
use Rattle.model.specs.Journal.{history_verdicts, list_at, cell_verdicts, journal_row, journal}
use Rattle.model.specs.Agreed.{Columns, IsAgreed, IsKnownJournal, AreVerdicts}
use Rattle.model.proofs.History.Growth.{no_history}
use Rattle.model.proofs.Agreement.Sources.{journal_known}

pub agreed_at_start : (config : Config) (columns : Columns) → IsAgreed config [] columns 0
agreed_at_start config columns = record { history = no_history config; rows = omega arith; cells = λ r there. omega arith }

pub agreed_fewer : (config : Config) (records : List Record) (columns : Columns) (m n : ℕ) → m ≤ n → IsAgreed config records columns n → IsAgreed config records columns m
agreed_fewer config records columns m n fewer agreed =
    record {
      history = agreed.history;
      rows = let known = agreed.rows in omega (arith, fewer, known);
      cells = λ r there. let known = agreed.cells r there in omega (arith, fewer, known);
    }

stands_there : {X : Type 0} (xs : List X) (i : ℕ) → i < length xs → (x : X) × (slice_get xs i ≡ Some x)
stands_there [] i within = absurd (omega (arith, within))
stands_there (x ∷ xs) zero within = (x, refl)
stands_there (x ∷ xs) (suc i) within = stands_there xs i (omega (arith, within))

-- its record of each of these rows, and the cell of each resolver
pub agreed_record : (config : Config) (records : List Record) (columns : Columns) (n i : ℕ) → IsAgreed config records columns n → i < n → (rec : Record) × (slice_get records i ≡ Some rec)
agreed_record config records columns n i agreed below = stands_there records i (let known = agreed.rows in omega (arith, below, known))

pub agreed_cell : (config : Config) (records : List Record) (columns : Columns) (n i r : ℕ) → IsAgreed config records columns n → i < n → r < config.resolvers → (cell : List Verdict) × (slice_get (list_at columns r) i ≡ Some cell)
agreed_cell config records columns n i r agreed below there = stands_there (list_at columns r) i (let known = agreed.cells r there in omega (arith, below, known))

-- the journal so known has these rows and no others
pub agreed_rows : (config : Config) (records : List Record) (columns : Columns) (n : ℕ) (rows : List JournalRow) → IsAgreed config records columns n → IsKnownJournal config records columns n rows → length rows ≡ n
unfolding journal
agreed_rows config records columns n rows agreed known =
    let mapped : length (journal config (cell_verdicts config records columns) (take n records)) ≡ length (take n records) = length-map (take n records) (journal_row config (cell_verdicts config records columns)) in
    let whole : length rows ≡ length (journal config (cell_verdicts config records columns) (take n records)) = ap length known in
    let taken = length-take n records in
    let there = agreed.rows in
    omega (arith, mapped, whole, taken, there)

-- and where the cells have the verdicts, it is that of the history of these rows
pub agreed_journal : (config : Config) (records : List Record) (columns : Columns) (n : ℕ) (rows : List JournalRow) → IsAgreed config records columns n → IsKnownJournal config records columns n rows → AreVerdicts config (take n records) columns
    → rows ≡ journal config (history_verdicts config (take n records)) (take n records)
agreed_journal config records columns n rows agreed known cells = known ∙ journal_known config records columns n agreed.history cells
