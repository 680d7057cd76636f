-- The numbers and the names of the faults of a script (this project's profile).
use Rattle.std.specs.Prelude.{ℕ, List, codes, Option, Some, None, Result}
use Rattle.system_keys.specs.AsSpecified.{IsAsSpecifiedIfAllocated}
use Rattle.mutation.specs.Refusals.{refusal_number, refusal_name}
use Rattle.scripts.specs.declared.script_fault.ScriptFault.{ScriptFault}
use Rattle.scripts.specs.declared.script_fault.ScriptFault.TheVariants.{NotJson, BadShape}
use Rattle.scripts.specs.declared.script_fault.ScriptFault.TheVariants.{Refused, NoSuchResolver, OutOfMemory}

-- the number that is printed; `OutOfMemory` has none
abbrev pub fault_number : ScriptFault → Option ℕ
fault_number NotJson = Some 70
fault_number BadShape = Some 71
fault_number (Refused refusal) = refusal_number refusal
fault_number NoSuchResolver = Some 20
fault_number OutOfMemory = None

-- the name that is printed after the number
abbrev pub fault_name : ScriptFault → List ℕ
fault_name NotJson = codes "NotJson"
fault_name BadShape = codes "BadShape"
fault_name (Refused refusal) = refusal_name refusal
fault_name NoSuchResolver = codes "NoSuchResolver"
fault_name OutOfMemory = codes "OutOfMemory"

-- the fault that an error is; out of memory is none
abbrev pub script_fault : ScriptFault → Option ScriptFault
script_fault OutOfMemory = None
script_fault fault = Some fault

-- a reader returns the specified value, as `view` sees it, or the specified fault, or out of memory
abbrev pub IsReadAs : {X Y : Type 0}
    → (X → Y) → Result X ScriptFault → Result Y ScriptFault → Type 0
IsReadAs view result specified = IsAsSpecifiedIfAllocated script_fault view result specified
