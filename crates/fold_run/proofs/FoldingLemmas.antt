-- Rows that are folded as their tokens come.
use Rattle.std.proofs.Common.{◌≡◌, ◌∙◌, ◌++◌, ◌∷◌, [], ℕ, List, true, refl, sym, ap, append_assoc}
use Rattle.std.specs.Prelude.{Option, None, Ok, Some}
use Rattle.std.specs.List.{last_or, list_all}
use Rattle.std.proofs.lemmas.List.{append-nil}
use Rattle.std.proofs.lemmas.List.Folds.{list_all-append}
use Rattle.std.proofs.lemmas.List.Sums.{fold-append}
use Rattle.serde_json.specs.Data.{Data}
use Rattle.system_keys.specs.Keys.{Key}
use Rattle.model.specs.Configs.{is_from_one_to, resolvers_limit}
use Rattle.model.specs.Metadata.{after_journal_row, metadata}
use Rattle.model.specs.declared.journal.JournalRow.{JournalRow}
use Rattle.cluster_lines.specs.MetadataLines.{metadata_text}
use Rattle.scripts.specs.Outputs.{done}
use Rattle.scripts.specs.Checks.{each_checked}
use Rattle.scripts.specs.Scripts.{checked_raw}
use Rattle.scripts.specs.Values.{value_of}
use Rattle.fold_run.specs.Checks.{checked_row, checked_script}
use Rattle.fold_run.specs.Folding.{AreFolded, IsNext}
use Rattle.fold_run.specs.Limits.{versions_increase, row_has_verdicts, script_shape}
use Rattle.fold_run.specs.Scripts.{script_of}
use Rattle.fold_run.specs.Shapes.{fields_shape}
use Rattle.fold_run.specs.Text.{fold_text, folded_text, last_version, version_of}
use Rattle.fold_run.specs.declared.folded_rows.FoldedRows.{FoldedRows}
use Rattle.fold_run.specs.declared.script.FoldScript.{FoldScript}
use Rattle.fold_run.specs.declared.script.RawRow.{RawRow}
use Rattle.scripts.proofs.CheckLemmas.{checked_turn}
use Rattle.fold_run.proofs.CheckLemmas.{same_version}

-- the rows so far are folded: whatever rows follow, their versions rise if they do from the last on
pub record SoFarFolded (raws : List RawRow) (rows : List JournalRow) (folded : FoldedRows) : Type 0 where
  pub rising : (rest : List RawRow) → versions_increase 0 (raws ++ rest) ≡ versions_increase folded.version rest
  pub verdicts : list_all (row_has_verdicts folded.resolvers) raws ≡ true
  pub checked : each_checked checked_row raws ≡ Ok rows
  pub version : folded.version ≡ last_version rows
  pub journal : folded.journal ≡ metadata rows

pub fold_start : (resolvers : ℕ) (folded : FoldedRows) → folded ≡ record { resolvers = resolvers; version = 0; journal = [] } → SoFarFolded [] [] folded
unfolding metadata
fold_start resolvers folded first =
    rw first (record { rising = λ rest. refl; verdicts = refl; checked = refl; version = refl; journal = refl })

last_behind : {X : Type 0} (found : Option X) (xs : List X) (x : X) → last_or found (xs ++ x ∷ []) ≡ Some x
last_behind found [] x = refl
last_behind found (y ∷ ys) x = last_behind (Some y) ys x

one_row_more : (rows : List JournalRow) (row : JournalRow) → metadata (rows ++ row ∷ []) ≡ after_journal_row (metadata rows) row
unfolding metadata
one_row_more rows row = fold-append after_journal_row [] rows (row ∷ [])

pub fold_turn : (raws : List RawRow) (rows : List JournalRow) (raw : RawRow) (row : JournalRow) (before after : FoldedRows)
    → SoFarFolded raws rows before → IsNext raw before → checked_row raw ≡ Ok row → after ≡ record before { version = row.version; journal = after_journal_row before.journal row }
    → SoFarFolded (raws ++ raw ∷ []) (rows ++ row ∷ []) after
fold_turn raws rows raw row before after so_far next checked folded =
    let same : row.version ≡ raw.version = same_version raw row checked in
    let all = list_all-append (row_has_verdicts before.resolvers) raws (raw ∷ []) in
    rw folded (record {
      rising = λ rest. ap (versions_increase 0) (append_assoc raws (raw ∷ []) rest) ∙ so_far.rising (raw ∷ rest) ∙ rw (next.above, same) refl;
      verdicts = all ∙ rw (so_far.verdicts, next.verdicts) refl;
      checked = checked_turn checked_row raws rows raw row so_far.checked checked;
      version = sym (ap version_of (last_behind None rows row));
      journal = ap (λ entries. after_journal_row entries row) so_far.journal ∙ sym (one_row_more rows row);
    })

pub fold_end : (raws : List RawRow) (rows : List JournalRow) (folded : FoldedRows) → SoFarFolded raws rows folded → AreFolded raws folded
fold_end raws rows folded so_far = record {
  rising = rw (append-nil raws) at (so_far.rising []);
  verdicts = so_far.verdicts;
  rows = rows;
  checked = so_far.checked;
  version = so_far.version;
  journal = so_far.journal;
}

-- the text of a script whose rows were folded
pub text_of_script : (d : Data) (resolvers : ℕ) (raws : List RawRow) (ask : List Key) (folded : FoldedRows) (text : List ℕ)
    → fields_shape d ≡ Some (record { resolvers = resolvers; rows = raws; ask = ask }) → AreFolded raws folded → folded.resolvers ≡ resolvers → is_from_one_to resolvers_limit resolvers ≡ true
    → text ≡ metadata_text folded.version folded.journal ask
    → (script : FoldScript) × (checked_raw checked_script (script_shape d) ≡ Ok script) × (text ≡ folded_text script)
text_of_script d resolvers raws ask folded text shape are same within printed =
    let verdicts : list_all (row_has_verdicts resolvers) raws ≡ true = rw same at are.verdicts in (
      record { rows = are.rows; ask = ask },
      rw (shape, within, are.rising, verdicts, are.checked) refl,
      rw (are.version, are.journal) at printed,
    )

pub text_of_bytes : (bytes : List ℕ) (d : Data) (text : List ℕ)
    → value_of bytes ≡ Some d → (script : FoldScript) × (checked_raw checked_script (script_shape d) ≡ Ok script) × (text ≡ folded_text script)
    → fold_text bytes ≡ done text
unfolding fold_text script_of
text_of_bytes bytes d text value is = rw (value, is.1) (ap done (sym is.2))
