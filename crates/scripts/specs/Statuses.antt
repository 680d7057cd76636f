-- How a run of a script ends.
use Rattle.std.specs.Prelude.{ℕ}
use Rattle.scripts.specs.declared.status.RunStatus.{RunStatus}
use Rattle.scripts.specs.declared.status.RunStatus.TheVariants.{Done, ScriptRefused}
use Rattle.scripts.specs.declared.status.RunStatus.TheVariants.{DeviceFailed, OutOfMemory, ClusterRefused}

-- the number that the process ends with
abbrev pub run_status_number : RunStatus → ℕ
run_status_number Done = 0
run_status_number ScriptRefused = 1
run_status_number DeviceFailed = 3
run_status_number OutOfMemory = 4
run_status_number ClusterRefused = 5

-- a whole text was written: the result of the script, or its refusal
abbrev pub IsWholeText : RunStatus → Type 0
IsWholeText Done = Unit {0}
IsWholeText ScriptRefused = Unit {0}
IsWholeText _ = ⊥

-- no device failed, and the limit on read calls was not passed
abbrev pub IsUnfailed : RunStatus → Type 0
IsUnfailed DeviceFailed = ⊥
IsUnfailed _ = Unit {0}
