-- What the bytes of a line ask, or their first fault (this project's profile).
use Rattle.std.specs.Prelude.{ℕ, List, Result, Ok}
use Rattle.scripts.specs.Checks.{◌>>=◌}
use Rattle.scripts.specs.Scripts.{read_as}
use Rattle.scripts.specs.declared.script_fault.ScriptFault.{ScriptFault}
use Rattle.turns_run.specs.Checks.{checked_event}
use Rattle.session_run.specs.Shapes.{line_shape}
use Rattle.session_run.specs.declared.line.Line.{Line}
use Rattle.session_run.specs.declared.line.Line.TheVariants as lines
use Rattle.session_run.specs.declared.line.RawLine.{RawLine}
use Rattle.session_run.specs.declared.line.RawLine.TheVariants as raw

-- the line, or the first fault of its event; asked keys are not checked
abbrev pub checked_line : RawLine → Result Line ScriptFault
checked_line (raw.Cluster config) = Ok (lines.Cluster config)
checked_line (raw.Event raw_event) = do
  event ← checked_event raw_event
  Ok (lines.Event event)
checked_line (raw.Show show) = Ok (lines.Show show)

-- what the bytes of a line ask
unfoldable pub line_of : List ℕ → Result Line ScriptFault
line_of bytes = read_as line_shape checked_line bytes
