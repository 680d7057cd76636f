-- What rows come to that are folded one after another (this project's profile).
use Rattle.std.specs.Prelude.{◌≡◌, List, Ok, true, nat_lt, string_bytes}
use Rattle.std.specs.List.{list_all}
use Rattle.serde_json.specs.Data.{Data}
use Rattle.model.specs.declared.journal.JournalRow.{JournalRow}
use Rattle.model.specs.Metadata.{after_journal_row, metadata}
use Rattle.scripts.specs.Checks.{each_checked}
use Rattle.scripts.specs.Scripts.{checked_raw}
use Rattle.fold_run.specs.Checks.{checked_row, checked_script}
use Rattle.fold_run.specs.Limits.{versions_increase, row_has_verdicts, script_shape}
use Rattle.fold_run.specs.Text.{folded_text, last_version}
use Rattle.fold_run.specs.declared.folded_rows.FoldedRows.{FoldedRows}
use Rattle.fold_run.specs.declared.script.FoldScript.{FoldScript}
use Rattle.fold_run.specs.declared.script.RawRow.{RawRow}
use Rattle.fold_run.specs.declared.text.FoldText.{FoldText}

-- the row is above the version of those before, and its transactions have all verdicts
pub record IsNext (raw : RawRow) (before : FoldedRows) : Type 0 where
  pub above : nat_lt before.version raw.version ≡ true
  pub verdicts : row_has_verdicts before.resolvers raw ≡ true

-- the next row has no fault, and was folded after those before
pub record IsNextFolded (raw : RawRow) (before after : FoldedRows) : Type 0 where
  pub next : IsNext raw before
  pub row : JournalRow
  pub checked : checked_row raw ≡ Ok row
  pub folded : after ≡ record before {
    version = row.version;
    journal = after_journal_row before.journal row;
  }

-- The rows are within the limits and have no fault; these are their last version and what they
-- leave.
pub record AreFolded (raws : List RawRow) (folded : FoldedRows) : Type 0 where
  pub rising : versions_increase 0 raws ≡ true
  pub verdicts : list_all (row_has_verdicts folded.resolvers) raws ≡ true
  pub rows : List JournalRow
  pub checked : each_checked checked_row raws ≡ Ok rows
  pub version : folded.version ≡ last_version rows
  pub journal : folded.journal ≡ metadata rows

-- the value is a script without a fault, and this is its text
abbrev pub IsTextOf : Data → FoldText → Type 0
IsTextOf d made = (script : FoldScript) × (checked_raw checked_script (script_shape d) ≡ Ok script)
    × (string_bytes made.text ≡ folded_text script)
