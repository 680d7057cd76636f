-- The threads script that bytes are, or their first fault (this project's profile).
use Rattle.std.specs.Prelude.{ℕ, List, Result}
use Rattle.scripts.specs.Scripts.{read_as}
use Rattle.scripts.specs.declared.script_fault.ScriptFault.{ScriptFault}
use Rattle.threads_scripts.specs.declared.script.ThreadsScript.{ThreadsScript}
use Rattle.threads_scripts.specs.Checks.{checked_script}
use Rattle.threads_scripts.specs.Limits.{script_shape}

-- the script that the bytes are
unfoldable pub script_of : List ℕ → Result ThreadsScript ScriptFault
script_of bytes = read_as script_shape checked_script bytes
