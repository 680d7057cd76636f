-- How the program ends.
use Rattle.std.specs.Prelude.{◌≡◌, ℕ, List, string_bytes}
use Rattle.command_line.specs.declared.status.Status.{Status}
use Rattle.command_line.specs.declared.status.Status.TheVariants.{CommandLineRefused, Ran}
use Rattle.scripts.specs.Statuses.{run_status_number}
use Rattle.scripts.specs.declared.status.RunStatus.{RunStatus}
use Rattle.scripts.specs.declared.status.RunStatus.TheVariants.{OutOfMemory}

-- the number that the process ends with
abbrev pub status_number : Status → ℕ
status_number (Ran status) = run_status_number status
status_number (CommandLineRefused text) = 2

-- a run ended with a status that has this property
abbrev pub IfRan : Status → (RunStatus → Type 0) → Type 0
IfRan (Ran status) property = property status
IfRan (CommandLineRefused text) property = ⊥

-- the command line was refused with a text that has this property, or an allocation failed
abbrev pub IsRejectedWith : (IsText : List ℕ → Type 0) → Status → Type 0
IsRejectedWith IsText (Ran status) = status ≡ OutOfMemory
IsRejectedWith IsText (CommandLineRefused text) = IsText (string_bytes text)
