-- What the bytes of a fold script come to: a text, and how the run ends (this project's profile).
use Rattle.std.specs.Prelude.{ℕ, List, Option, Some, None}
use Rattle.std.specs.List.{last_or}
use Rattle.model.specs.declared.journal.JournalRow.{JournalRow}
use Rattle.model.specs.Metadata.{metadata}
use Rattle.cluster_lines.specs.MetadataLines.{metadata_text}
use Rattle.scripts.specs.Outputs.{OutputView, output_for}
use Rattle.scripts.specs.Runs.{WritesTextOf}
use Rattle.scripts.specs.declared.status.RunStatus.{RunStatus}
use Rattle.fold_run.specs.declared.script.FoldScript.{FoldScript}
use Rattle.fold_run.specs.Scripts.{script_of}

abbrev pub version_of : Option JournalRow → ℕ
version_of None = 0
version_of (Some row) = row.version

-- the version of the last row, or 0 without rows
abbrev pub last_version : List JournalRow → ℕ
last_version rows = version_of (last_or None rows)

-- the folded rows at their last version
abbrev pub folded_text : FoldScript → List ℕ
folded_text script =
    metadata_text (last_version script.rows) (metadata script.rows) script.ask

-- the text and the status of the script that the bytes are, or of its first fault
unfoldable pub fold_text : List ℕ → OutputView
fold_text bytes = output_for folded_text (script_of bytes)

-- the run writes the text that `fold_text` gives the input, or a beginning of it
abbrev pub Folds : Option (List ℕ) → Option (List ℕ) → Option (List ℕ) → RunStatus → Type 0
Folds = WritesTextOf fold_text
