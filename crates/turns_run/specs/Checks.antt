-- The checks of a turns script: the first fault in the order of its events (this project's
-- profile).
use Rattle.std.specs.Prelude.{map, Result, Ok}
use Rattle.mutation.specs.Transactions.{given_from}
use Rattle.scripts.specs.BatchChecks.{checked_batch}
use Rattle.scripts.specs.Checks.{◌>>=◌, checked_range, each_checked}
use Rattle.scripts.specs.declared.script_fault.ScriptFault.{ScriptFault}
use Rattle.turn_world.specs.declared.event.Event.{Event}
use Rattle.turn_world.specs.declared.event.Event.TheVariants as events
use Rattle.turns_run.specs.declared.script.RawEvent.{RawEvent}
use Rattle.turns_run.specs.declared.script.RawEvent.TheVariants as raw
use Rattle.turns_run.specs.declared.script.RawTurns.{RawTurns}
use Rattle.turns_run.specs.declared.script.TurnsScript.{TurnsScript}

-- the event, or its first fault: of a batch, the first of its transactions, and then that there are
-- too many
abbrev pub checked_event : RawEvent → Result Event ScriptFault
checked_event (raw.Sequence proxy batch) = do
  transactions ← checked_batch (map given_from batch)
  Ok (events.Sequence proxy transactions)
checked_event (raw.Move moved) = do
  range ← checked_range moved.range
  Ok (events.Move range moved.dest)
checked_event (raw.Offer row resolver) = Ok (events.Offer row resolver)
checked_event (raw.Finish proxy) = Ok (events.Finish proxy)

-- the script, or the first fault of its events; asked keys are not checked
abbrev pub checked_script : RawTurns → Result TurnsScript ScriptFault
checked_script script = do
  events ← each_checked checked_event script.events
  Ok (record { config = script.config; events = events; ask = script.ask })
