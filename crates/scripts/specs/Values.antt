-- The JSON value that bytes are (this project's profile).
use Rattle.std.specs.Prelude.{ℕ, List, if◌then◌else◌, Option, None, Result, ok_or}
use Rattle.std.specs.Str.{is_utf8}
use Rattle.serde_json.specs.Data.{Data}
use Rattle.serde_json.specs.Read.{read}
use Rattle.scripts.specs.declared.script_fault.ScriptFault.{ScriptFault}
use Rattle.scripts.specs.declared.script_fault.ScriptFault.TheVariants as faults

-- the value that `serde_json` reads of the bytes; what is no UTF-8 is no value
unfoldable pub value_of : List ℕ → Option Data
value_of bytes = if is_utf8 bytes then read bytes else None

-- the value that `serde_json` reads, or NotJson
abbrev pub value_read : List ℕ → Result Data ScriptFault
value_read bytes = ok_or (value_of bytes) faults.NotJson
