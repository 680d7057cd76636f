-- What the check of a row leaves as it is.
use Rattle.std.proofs.Common.{◌≡◌, ℕ, List, sym, ap}
use Rattle.std.specs.Prelude.{Result, Ok, Err}
use Rattle.model.specs.declared.journal.JournalRow.{JournalRow}
use Rattle.model.specs.declared.journal.StateTxn.{StateTxn}
use Rattle.scripts.specs.Checks.{◌>>=◌, each_checked}
use Rattle.scripts.specs.declared.script_fault.ScriptFault.{ScriptFault}
use Rattle.fold_run.specs.Checks.{checked_row, checked_state}
use Rattle.fold_run.specs.declared.script.RawRow.{RawRow}

-- the row of this version
abbrev of_version : ℕ → List StateTxn → Result JournalRow ScriptFault
of_version version states = Ok (record { version = version; states = states })

version_kept : (version : ℕ) (said : Result (List StateTxn) ScriptFault) (row : JournalRow) → (said >>= of_version version) ≡ Ok row → row.version ≡ version
version_kept version (Err fault) row is = absurd (cc)
version_kept version (Ok states) row is = sym (ap version_in is)
  where
    version_in : Result JournalRow ScriptFault → ℕ
    version_in (Ok row) = row.version
    version_in (Err fault) = 0

-- a row that is checked has the version that it had
pub same_version : (raw : RawRow) (row : JournalRow) → checked_row raw ≡ Ok row → row.version ≡ raw.version
same_version raw row is = version_kept raw.version (each_checked checked_state raw.states) row is
