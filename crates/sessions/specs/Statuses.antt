-- How a session ends.
use Rattle.std.specs.Prelude.{ℕ}
use Rattle.sessions.specs.declared.status.SessionStatus.{SessionStatus}
use Rattle.sessions.specs.declared.status.SessionStatus.TheVariants.{Done, ReadFailed}
use Rattle.sessions.specs.declared.status.SessionStatus.TheVariants.{WriteFailed, Unended}

-- the number that the process ends with
abbrev pub session_status_number : SessionStatus → ℕ
session_status_number Done = 0
session_status_number ReadFailed = 3
session_status_number WriteFailed = 3
session_status_number Unended = 3
