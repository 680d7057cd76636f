-- The script that bytes are, or their first fault, by the shape of its value and by its checks
-- (this project's profile).
use Rattle.std.specs.Prelude.{ℕ, List, Option, Some, None, Result, Err}
use Rattle.serde_json.specs.Data.{Data}
use Rattle.scripts.specs.declared.script_fault.ScriptFault.{ScriptFault}
use Rattle.scripts.specs.declared.script_fault.ScriptFault.TheVariants.{NotJson, BadShape}
use Rattle.scripts.specs.Values.{value_of}

-- the whole shape is looked at before any key, value or range is checked
abbrev pub checked_raw : {R X : Type 0} → (R → Result X ScriptFault) → Option R
    → Result X ScriptFault
checked_raw checked None = Err BadShape
checked_raw checked (Some raw) = checked raw

abbrev pub checked_data : {R X : Type 0} → (Data → Option R) → (R → Result X ScriptFault)
    → Option Data → Result X ScriptFault
checked_data shape checked None = Err NotJson
checked_data shape checked (Some d) = checked_raw checked (shape d)

-- the script of this shape that the bytes are, if it passes the checks
abbrev pub read_as : {R X : Type 0} → (Data → Option R) → (R → Result X ScriptFault)
    → List ℕ → Result X ScriptFault
read_as shape checked bytes = checked_data shape checked (value_of bytes)
