-- The limits of a threads script (this project's profile).
use Rattle.std.specs.Prelude.{length, Bool, ◌&&◌, nat_eq, if◌then◌else◌, Option, Some, None}
use Rattle.serde_json.specs.Data.{Data}
use Rattle.model.specs.Configs.{is_from_one_to}
use Rattle.agreed_ledger.specs.Cells.{ledger_limit}
use Rattle.scripts.specs.Shapes.{◌>>=◌}
use Rattle.threads_scripts.specs.declared.script.RawThreads.{RawThreads}
use Rattle.threads_scripts.specs.Shapes.{threads_fields_shape}

-- from 1 row to as many as a ledger can have, and one list of work for each proxy
abbrev pub is_within_limits : RawThreads → Bool
is_within_limits script =
    is_from_one_to ledger_limit script.rows && nat_eq (length script.work) script.config.proxies

abbrev pub limited : RawThreads → Option RawThreads
limited script = if is_within_limits script then Some script else None

-- the script that a value is, if it has the form and is within the limits
abbrev pub script_shape : Data → Option RawThreads
script_shape d = do
  script ← threads_fields_shape d
  limited script
