-- The output for a script: a text, and how the run ends (this project's profile).
use Rattle.std.specs.Prelude.{◌≡◌, ℕ, List, [], string_bytes}
use Rattle.std.specs.Prelude.{Option, Some, None, Result, Ok, Err}
use Rattle.scripts.specs.declared.output.Output.{Output}
use Rattle.scripts.specs.declared.script_fault.ScriptFault.{ScriptFault}
use Rattle.scripts.specs.declared.status.RunStatus.{RunStatus}
use Rattle.scripts.specs.declared.status.RunStatus.TheVariants.{Done, ScriptRefused}
use Rattle.scripts.specs.Lines.{refused_line}
use Rattle.scripts.specs.ScriptFaults.{fault_number, fault_name}

-- a text to write, and the status that goes with it
pub record OutputView : Type 0 where
  pub text : List ℕ
  pub status : RunStatus

-- OutOfMemory has no number, and no text
abbrev pub refusal_text : Option ℕ → List ℕ → List ℕ
refusal_text None name = []
refusal_text (Some number) name = refused_line number name

-- the output for a script with this fault
abbrev pub refused_output : ScriptFault → OutputView
refused_output fault =
    record { text = refusal_text (fault_number fault) (fault_name fault); status = ScriptRefused }

-- the output for a script without a fault, of which this is printed
abbrev pub done : List ℕ → OutputView
done text = record { text = text; status = Done }

-- the output for a script: what is printed of it, or its first fault
abbrev pub output_for : {X : Type 0} → (X → List ℕ) → Result X ScriptFault → OutputView
output_for printed (Ok script) = done (printed script)
output_for printed (Err fault) = refused_output fault

-- the output has this text and this status
pub record IsOutput (view : OutputView) (output : Output) : Type 0 where
  pub text : string_bytes output.text ≡ view.text
  pub status : output.status ≡ view.status
