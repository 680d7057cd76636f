-- The checks of a fold script: the first fault in the order of the script's lists (this project's
-- profile).
use Rattle.std.specs.Prelude.{Result, Ok}
use Rattle.model.specs.declared.journal.StateTxn.{StateTxn}
use Rattle.model.specs.declared.journal.JournalRow.{JournalRow}
use Rattle.fold_run.specs.declared.script.FoldScript.{FoldScript}
use Rattle.fold_run.specs.declared.script.RawFold.{RawFold}
use Rattle.fold_run.specs.declared.script.RawRow.{RawRow}
use Rattle.fold_run.specs.declared.script.RawState.{RawState}
use Rattle.scripts.specs.declared.script_fault.ScriptFault.{ScriptFault}
use Rattle.scripts.specs.Checks.{◌>>=◌, checked_change, each_checked}

-- the transaction, or the first fault of its changes
abbrev pub checked_state : RawState → Result StateTxn ScriptFault
checked_state state = do
  mutations ← each_checked checked_change state.mutations
  Ok (record { mutations = mutations; lock_aware = state.lock_aware; verdicts = state.verdicts })

-- the row, or the first fault of its transactions
abbrev pub checked_row : RawRow → Result JournalRow ScriptFault
checked_row row = do
  states ← each_checked checked_state row.states
  Ok (record { version = row.version; states = states })

-- the script, or the first fault of its rows; asked keys are not checked
abbrev pub checked_script : RawFold → Result FoldScript ScriptFault
checked_script script = do
  rows ← each_checked checked_row script.rows
  Ok (record { rows = rows; ask = script.ask })
