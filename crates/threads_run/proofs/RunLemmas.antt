-- What a run of a threads script answers.
use Rattle.std.proofs.Common.{◌≡◌, ℕ, List, [], Option, ap₂, refl, subst, sym}
use Rattle.std.specs.Prelude.{None, Result, IsOk, IsSome}
use Rattle.std.specs.Io.KnownBytes.{Appends}
use Rattle.system_keys.specs.AsSpecified.{IsFaultIfAllocated}
use Rattle.scripts.specs.Outputs.{OutputView, IsOutput, refused_output}
use Rattle.scripts.specs.ScriptFaults.{fault_number, script_fault}
use Rattle.scripts.specs.declared.output.Output.{Output}
use Rattle.scripts.specs.declared.script_fault.ScriptFault.{ScriptFault}
use Rattle.scripts.specs.declared.script_fault.ScriptFault.TheVariants as faults
use Rattle.scripts.specs.Runs.{IsInput, LeavesDevices}
use Rattle.scripts.specs.declared.devices.Sink.{Ghosts as SinkView}
use Rattle.scripts.specs.declared.devices.Source.{Ghosts as SourceView}
use Rattle.scripts.specs.Statuses.{IsWholeText}
use Rattle.scripts.specs.declared.status.RunStatus.{RunStatus}
use Rattle.scripts.specs.declared.status.RunStatus.TheVariants.{Done, ScriptRefused, DeviceFailed}
use Rattle.scripts.specs.declared.status.RunStatus.TheVariants.{OutOfMemory, ClusterRefused}
use Rattle.threads_lines.specs.Faults.{fault_status}
use Rattle.threads_lines.specs.declared.faults.RunFault.{RunFault}
use Rattle.threads_lines.specs.declared.faults.RunFault.TheVariants as run_faults
use Rattle.threads_run.specs.Runs.{IsOutputOf, IsOutputFor, RunsThreads, WritesOutput, view_of_output}
use Rattle.threads_scripts.specs.Scripts.{script_of}
use Rattle.threads_scripts.specs.declared.script.ThreadsScript.{ThreadsScript}

-- an output of two right parts is the answer
is_answer : (answer : OutputView) (output : Output) → IsOutput answer output → view_of_output output ≡ answer
is_answer answer output is = ap₂ (λ (text : List ℕ) (status : RunStatus). record { text = text; status = status }) is.text is.status

-- a fault that has a number is the script's
pub refused_answers : (said : Result ThreadsScript ScriptFault) (fault : ScriptFault) (output : Output)
    → IsFaultIfAllocated (script_fault fault) said → IsSome (fault_number fault)
    → IsOutput (refused_output fault) output → IsOutputOf said (view_of_output output)
refused_answers said faults.NotJson output fails numbered is = rw fails (is_answer _ output is)
refused_answers said faults.BadShape output fails numbered is = rw fails (is_answer _ output is)
refused_answers said (faults.Refused refusal) output fails numbered is = rw fails (is_answer _ output is)
refused_answers said faults.NoSuchResolver output fails numbered is = rw fails (is_answer _ output is)
refused_answers said faults.OutOfMemory output fails numbered is =
    let none : IsSome {T = ℕ} None = numbered in cc

-- no answer, where a run came to none
pub no_answer : OutputView
no_answer = record { text = []; status = Done }

-- the whole text of an answer was written
pub writes_whole : (output : Output) (Unchanged : Type 0) (input old new : Option (List ℕ)) (bytes : List ℕ)
    → IsWholeText output.status → IsInput input bytes → IsOutputFor bytes (view_of_output output)
    → Appends old new (view_of_output output).text → WritesOutput (view_of_output output) Unchanged input old new output.status
writes_whole output Unchanged input old new bytes answered read is put = by output.status refl answered
  where
    by : (status : RunStatus) → output.status ≡ status → IsWholeText status → WritesOutput (view_of_output output) Unchanged input old new status
    by Done same ok = ((bytes, read, is), put, same)
    by ScriptRefused same ok = ((bytes, read, is), put, same)
    by DeviceFailed same ok = absurd ok
    by OutOfMemory same ok = absurd ok
    by ClusterRefused same ok = absurd ok

-- a run that fails so left the sink as it was
pub fails_so : {S T : Type 0} (source : SourceView S) (source_old source_new : S) (sink : SinkView T) (sink_old sink_new : T)
    (fault : RunFault) (status : RunStatus) (bytes : List ℕ) → status ≡ fault_status fault
    → sink_new ≡ sink_old → IsInput (source.remaining source_old) bytes → (fault ≡ run_faults.Refused → IsOk (script_of bytes))
    → LeavesDevices (λ _. no_answer) source source_old source_new sink sink_old sink_new OutOfMemory
    → LeavesDevices (λ _. no_answer) source source_old source_new sink sink_old sink_new ClusterRefused
    → RunsThreads source source_old source_new sink sink_old sink_new status
fails_so source source_old source_new sink sink_old sink_new run_faults.OutOfMemory status bytes is same read refused lacking refusing =
    subst (λ (s : RunStatus). RunsThreads source source_old source_new sink sink_old sink_new s) (sym is)
    (record { answer = no_answer; text = same; devices = lacking })
fails_so source source_old source_new sink sink_old sink_new run_faults.Refused status bytes is same read refused lacking refusing =
    subst (λ (s : RunStatus). RunsThreads source source_old source_new sink sink_old sink_new s) (sym is)
    (record { answer = no_answer; text = (same, (bytes, read, refused refl)); devices = refusing })
