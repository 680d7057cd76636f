-- What a run by words leaves.
use Rattle.std.specs.Prelude.{◌≡◌, ◌≢◌, ◌⊎◌, ℕ, List, [], Option, Some, None}
use Rattle.clap.specs.Words.{Text, fault_of, matches_of}
use Rattle.command_line.specs.CommandLine.{ModeNames, command_line, mode_of}
use Rattle.command_line.specs.KnownLines.{IsFoldLine, IsRejectedLine, IsThreadsLine, IsTurnsLine}
use Rattle.command_line.specs.Rejections.{IsTextOf}
use Rattle.command_line.specs.Statuses.{IfRan, IsRejectedWith}
use Rattle.command_line.specs.declared.mode.Mode.{Mode}
use Rattle.command_line.specs.declared.mode.Mode.TheVariants.{Fold, Turns, Threads}
use Rattle.command_line.specs.declared.status.Status.{Status}
use Rattle.command_line.specs.declared.status.Status.TheVariants.{CommandLineRefused, Ran}
use Rattle.fold_run.specs.Text.{fold_text}
use Rattle.scripts.specs.Outputs.{OutputView}
use Rattle.scripts.specs.Runs.{LeavesDevices, WritesTextOf}
use Rattle.scripts.specs.declared.devices.Sink.{Ghosts as SinkView}
use Rattle.scripts.specs.declared.devices.Source.{Ghosts as SourceView}
use Rattle.scripts.specs.declared.status.RunStatus.{RunStatus}
use Rattle.scripts.specs.declared.status.RunStatus.TheVariants.{OutOfMemory}
use Rattle.threads_run.specs.Runs.{RunsThreads}
use Rattle.turns_run.specs.Text.{turns_text}

-- what a run leaves that answers its input so: what it wrote, and its devices
pub record RunsBy {S T : Type 0} (output_to : List ℕ → OutputView)
    (source : SourceView S) (source_old source_new : S)
    (sink : SinkView T) (sink_old sink_new : T) (status : RunStatus) : Type 0 where
  pub text : WritesTextOf output_to (source.remaining source_old)
      (sink.written sink_old) (sink.written sink_new) status
  pub devices : LeavesDevices output_to source source_old source_new sink sink_old sink_new status

-- what a run in this mode leaves
abbrev pub RunsIn : Mode → {S T : Type 0} → (source : SourceView S) → (source_old source_new : S)
    → (sink : SinkView T) → (sink_old sink_new : T) → RunStatus → Type 0
RunsIn Fold = RunsBy fold_text
RunsIn Turns = RunsBy turns_text
RunsIn Threads = RunsThreads

-- what a run leaves of its devices that had one answer of several
abbrev pub LeavesDevicesOfOne : {S T : Type 0} → (source : SourceView S)
    → (source_old source_new : S) → (sink : SinkView T) → (sink_old sink_new : T)
    → RunStatus → Type 0
LeavesDevicesOfOne source source_old source_new sink sink_old sink_new status =
    (answer : OutputView)
    × LeavesDevices (λ _. answer) source source_old source_new sink sink_old sink_new status

-- what a run in this mode leaves of its devices; a script for threads has several answers
abbrev pub LeavesDevicesIn : Mode → {S T : Type 0} → (source : SourceView S)
    → (source_old source_new : S) → (sink : SinkView T) → (sink_old sink_new : T)
    → RunStatus → Type 0
LeavesDevicesIn Fold = LeavesDevices fold_text
LeavesDevicesIn Turns = LeavesDevices turns_text
LeavesDevicesIn Threads = LeavesDevicesOfOne

-- what a run in a mode leaves; every command line that `clap` takes gives a mode
abbrev pub RunsMode : Option Mode → (Mode → Type 0) → Type 0
RunsMode (Some mode) runs = runs mode
RunsMode None runs = ⊥

-- what is left of the devices: what a run with this status leaves, or all unchanged
abbrev pub LeavesByStatus : Status → Type 0 → (RunStatus → Type 0) → Type 0
LeavesByStatus (Ran status) unchanged leaves = leaves status
LeavesByStatus (CommandLineRefused text) unchanged leaves = unchanged

-- an allocation failed before the run began, and the devices are unchanged; or it ran
abbrev pub RunsOrRunsOut : Status → Type 0 → Type 0 → Type 0
RunsOrRunsOut status unchanged runs = ((status ≡ Ran OutOfMemory) × unchanged) ⊎ runs

-- what `clap` reads of the words decides the run: if it refuses them, the text tells one of its faults,
-- and the devices are unchanged; if it takes them, their mode runs, unless an allocation fails before
pub record RunsWords
    (words : List Text) (status : Status) (unchanged : Type 0) (runs : Mode → Type 0) :
    Type 0 where
  pub names : ModeNames
  pub refused : fault_of (command_line names) words ≢ []
      → IsRejectedWith (IsTextOf (fault_of (command_line names) words)) status × unchanged
  pub taken : fault_of (command_line names) words ≡ [] → RunsOrRunsOut status unchanged
      (RunsMode (mode_of (matches_of (command_line names) words)) runs)

-- nothing is read or written
abbrev pub AreUnchanged : {S T : Type 0} → (source_old source_new : S) → (sink_old sink_new : T) → Type 0
AreUnchanged source_old source_new sink_old sink_new =
    (source_new ≡ source_old) × (sink_new ≡ sink_old)

-- What a run by words leaves: what `clap` reads of them decides it, and of command lines that are written out it is
-- said once more without `clap`.
pub record RunsByWords {S T : Type 0} (words : List Text)
    (source : SourceView S) (source_old source_new : S)
    (sink : SinkView T) (sink_old sink_new : T) (status : Status) : Type 0 where
  pub mode : RunsWords words status (AreUnchanged source_old source_new sink_old sink_new)
      (λ mode. IfRan status (RunsIn mode source source_old source_new sink sink_old sink_new))
  pub fold : IsFoldLine words → RunsOrRunsOut status (AreUnchanged source_old source_new sink_old sink_new)
      (IfRan status (RunsBy fold_text source source_old source_new sink sink_old sink_new))
  pub turns : IsTurnsLine words → RunsOrRunsOut status (AreUnchanged source_old source_new sink_old sink_new)
      (IfRan status (RunsBy turns_text source source_old source_new sink sink_old sink_new))
  pub threads : IsThreadsLine words → RunsOrRunsOut status (AreUnchanged source_old source_new sink_old sink_new)
      (IfRan status (RunsThreads source source_old source_new sink sink_old sink_new))
  pub rejected : IsRejectedLine words
      → IsRejectedWith (λ text. text ≢ []) status × AreUnchanged source_old source_new sink_old sink_new

-- what is left of the devices after a run by words
abbrev pub LeavesDevicesOfRun : {S T : Type 0} → (source : SourceView S) → (source_old source_new : S)
    → (sink : SinkView T) → (sink_old sink_new : T) → Status → Type 0
LeavesDevicesOfRun source source_old source_new sink sink_old sink_new status =
    LeavesByStatus status (AreUnchanged source_old source_new sink_old sink_new) (λ status.
    (mode : Mode) × LeavesDevicesIn mode source source_old source_new sink sink_old sink_new status)
