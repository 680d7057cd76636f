-- What is known of a threads script that was read (this project's profile).
use Rattle.std.specs.Prelude.{◌≡◌, ◌≤◌, length, true}
use Rattle.std.specs.List.{list_all}
use Rattle.agreed_ledger.specs.Cells.{ledger_limit}
use Rattle.threads_scripts.specs.Checks.{has_destination}
use Rattle.threads_scripts.specs.declared.script.ThreadsScript.{ThreadsScript}

-- a ledger can have this number of rows, each proxy has its work, and each move goes to a resolver that is
-- there
pub record IsRunnable (script : ThreadsScript) : Type 0 where
  pub rows : (1 ≤ script.rows) × (script.rows ≤ ledger_limit)
  pub work : length script.work ≡ script.config.proxies
  pub moves : list_all (has_destination script.config.resolvers) script.moves ≡ true
