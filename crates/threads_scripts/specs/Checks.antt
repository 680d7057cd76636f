-- The checks of a threads script: the first fault of its moves, then the first of its batches, and then
-- that a move goes to a resolver that is not there (this project's profile).
use Rattle.std.specs.Prelude.{ℕ, List, Bool, nat_lt, if◌then◌else◌, Result, Ok, Err}
use Rattle.std.specs.List.{list_all}
use Rattle.model.specs.Stamps.{AdmittedTransaction}
use Rattle.mutation.specs.declared.transaction.Transaction.{Transaction}
use Rattle.scripts.specs.BatchChecks.{checked_transactions}
use Rattle.scripts.specs.Checks.{◌>>=◌, checked_range, each_checked}
use Rattle.scripts.specs.declared.script_fault.ScriptFault.{ScriptFault}
use Rattle.scripts.specs.declared.script_fault.ScriptFault.TheVariants.{NoSuchResolver}
use Rattle.cluster_scripts.specs.declared.given_move.GivenMove.{GivenMove}
use Rattle.threads_scripts.specs.declared.script.RawThreads.{RawThreads}
use Rattle.threads_scripts.specs.declared.script.ThreadsScript.{ThreadsScript}
use Rattle.threads_scripts.specs.declared.script.UndatedMove.{UndatedMove}

-- the move, or the fault of its range
abbrev pub checked_move : GivenMove → Result UndatedMove ScriptFault
checked_move moved = do
  range ← checked_range moved.range
  Ok (record { range = range; dest = moved.dest })

-- the batches of each proxy, or the first fault of one
abbrev pub checked_work : List (List (List Transaction))
    → Result (List (List (List AdmittedTransaction))) ScriptFault
checked_work work = each_checked (each_checked checked_transactions) work

-- the move goes to one of this many resolvers
abbrev pub has_destination : ℕ → UndatedMove → Bool
has_destination resolvers moved = nat_lt moved.dest resolvers

abbrev pub with_resolvers : ThreadsScript → Result ThreadsScript ScriptFault
with_resolvers script =
    if list_all (has_destination script.config.resolvers) script.moves then Ok script
    else Err NoSuchResolver

-- the script, or its first fault; asked keys are not checked
abbrev pub checked_script : RawThreads → Result ThreadsScript ScriptFault
checked_script script = do
  moves ← each_checked checked_move script.moves
  work ← checked_work script.work
  with_resolvers (record {
    config = script.config;
    rows = script.rows;
    moves = moves;
    work = work;
    ask = script.ask;
  })
