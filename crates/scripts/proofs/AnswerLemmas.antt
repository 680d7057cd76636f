-- What the bytes of a script come to.
use Rattle.std.proofs.Common.{◌≡◌, ◌∙◌, ℕ, List, ap}
use Rattle.std.specs.Prelude.{None, Result, Ok, Err, IfOk, OnOk, IsSome}
use Rattle.system_keys.specs.declared.memory.OutOfMemory.{OutOfMemory}
use Rattle.system_keys.specs.AsSpecified.{IsFaultIfAllocated}
use Rattle.scripts.specs.Outputs.{OutputView, IsOutput, output_for, refused_output}
use Rattle.scripts.specs.ScriptFaults.{fault_number, script_fault}
use Rattle.scripts.specs.declared.output.Output.{Output}
use Rattle.scripts.specs.declared.script_fault.ScriptFault.{ScriptFault}
use Rattle.scripts.specs.declared.script_fault.ScriptFault.TheVariants as faults

-- a fault that has a number is the script's
pub output_for-fault : {X : Type 0} (printed : X → List ℕ) (said : Result X ScriptFault) (fault : ScriptFault) (result : Result Output OutOfMemory)
    → IsFaultIfAllocated (script_fault fault) said → OnOk result (IsSome (fault_number fault))
    → IfOk result (IsOutput (refused_output fault)) → IfOk result (IsOutput (output_for printed said))
output_for-fault printed said faults.NotJson result fails numbered is = rw fails is
output_for-fault printed said faults.BadShape result fails numbered is = rw fails is
output_for-fault printed said (faults.Refused refusal) result fails numbered is = rw fails is
output_for-fault printed said faults.NoSuchResolver result fails numbered is = rw fails is
output_for-fault printed said faults.OutOfMemory (Ok output) fails numbered is =
    let none : IsSome {T = ℕ} None = numbered in cc
output_for-fault printed said faults.OutOfMemory (Err memory) fails numbered is = tt

-- the answer to a script, by what was read
pub output_for-read : {X : Type 0} (printed : X → List ℕ) (answer : OutputView) (said found : Result X ScriptFault)
    → said ≡ found → answer ≡ output_for printed said → answer ≡ output_for printed found
output_for-read printed answer said found is answers = answers ∙ ap (output_for printed) is
