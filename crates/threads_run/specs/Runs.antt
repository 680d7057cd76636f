-- What a run of a threads script writes, and what it leaves of its source and its sink (this
-- project's profile).
use Rattle.std.specs.Prelude.{◌≡◌, ◌⊎◌, ℕ, List, Option, Result, Ok, Err, IsOk, string_bytes}
use Rattle.std.specs.Io.KnownBytes.{Appends}
use Rattle.scripts.specs.Outputs.{OutputView, refused_output}
use Rattle.scripts.specs.Devices.{AppendsBeginning}
use Rattle.scripts.specs.Runs.{IsInput, LeavesDevices}
use Rattle.scripts.specs.declared.devices.Sink.{Ghosts as SinkView}
use Rattle.scripts.specs.declared.devices.Source.{Ghosts as SourceView}
use Rattle.scripts.specs.declared.output.Output.{Output}
use Rattle.scripts.specs.declared.script_fault.ScriptFault.{ScriptFault}
use Rattle.scripts.specs.declared.status.RunStatus.{RunStatus}
use Rattle.scripts.specs.declared.status.RunStatus.TheVariants.{Done, ScriptRefused}
use Rattle.scripts.specs.declared.status.RunStatus.TheVariants.{DeviceFailed, OutOfMemory, ClusterRefused}
use Rattle.threads_scripts.specs.Scripts.{script_of}
use Rattle.threads_run.specs.Text.{IsThreadsText}
use Rattle.threads_scripts.specs.declared.script.ThreadsScript.{ThreadsScript}

-- a script is answered by a text of it, and one with a fault by its refusal
abbrev pub IsOutputOf : Result ThreadsScript ScriptFault → OutputView → Type 0
IsOutputOf (Ok script) answer = IsThreadsText script answer.text × (answer.status ≡ Done)
IsOutputOf (Err fault) answer = answer ≡ refused_output fault

-- an answer to the bytes of a script; threads may give several
abbrev pub IsOutputFor : List ℕ → OutputView → Type 0
IsOutputFor bytes answer = IsOutputOf (script_of bytes) answer

-- the answer that an output is
abbrev pub view_of_output : Output → OutputView
view_of_output output = record { text = string_bytes output.text; status = output.status }

-- the answer is one to the whole input, as far as the source exposes it
abbrev pub IsOutputForInput : Option (List ℕ) → OutputView → Type 0
IsOutputForInput input answer = (bytes : List ℕ) × IsInput input bytes × IsOutputFor bytes answer

-- The whole text of the answer was written; or a beginning of it, perhaps nothing, if a write failed.
-- The sink is unchanged if reading or an allocation failed, or the cluster refused a call; `Unchanged`
-- says that it is.
abbrev pub WritesOutput :
    OutputView → (Unchanged : Type 0) → (input old new : Option (List ℕ)) → RunStatus → Type 0
WritesOutput answer Unchanged input old new Done =
    IsOutputForInput input answer × Appends old new answer.text × (answer.status ≡ Done)
WritesOutput answer Unchanged input old new ScriptRefused =
    IsOutputForInput input answer × Appends old new answer.text × (answer.status ≡ ScriptRefused)
WritesOutput answer Unchanged input old new DeviceFailed =
    Unchanged ⊎ (IsOutputForInput input answer × AppendsBeginning old new answer.text)
WritesOutput answer Unchanged input old new OutOfMemory = Unchanged
WritesOutput answer Unchanged input old new ClusterRefused =
    Unchanged × ((bytes : List ℕ) × IsInput input bytes × IsOk (script_of bytes))

-- what a run writes, and what it leaves of its devices; `answer` is the one that it had to write, and
-- the empty one if it came to none
pub record RunsThreads {S T : Type 0} (source : SourceView S) (source_old source_new : S)
    (sink : SinkView T) (sink_old sink_new : T) (status : RunStatus) : Type 0 where
  pub answer : OutputView
  pub text : WritesOutput answer (sink_new ≡ sink_old) (source.remaining source_old)
      (sink.written sink_old) (sink.written sink_new) status
  pub devices : LeavesDevices (λ _. answer) source source_old source_new
      sink sink_old sink_new status
