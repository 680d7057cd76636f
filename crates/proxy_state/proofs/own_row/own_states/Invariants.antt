-- The state transactions so far, and those that are left, are all of the record.
use Rattle.std.proofs.Common.{◌≡◌, ◌++◌, drop}
use Rattle.model.specs.Journal.{states_from}
use Rattle.proxy_state.specs.Learning.{by_columns}
use Rattle.proxy_state.proofs.own_row.own_states.Given as goal

abbrev pub invariant-loop-number : goal.invariant-loop-number
invariant-loop-number l = l.states.items ++ states_from l.config (by_columns l.columns) l.rec l.number (drop l.number l.batch) ≡ states_from l.config (by_columns l.columns) l.rec 0 l.batch
