use Rattle.model.proofs.Serializability.ByKeys.{writing_the_lock_row_is_overlap, serial_keeps_the_lock_row}
use Rattle.model.proofs.Serializability.ByKeys.{histories_keep_the_lock_row}
use Rattle.model.proofs.Serializability.ByKeys.{a_lock_stops_plain_state_transactions}
use Rattle.model.proofs.laws.serializability.lock_row_law.Goals as goal

pub returns : goal.returns
returns c = record {
  writes = writing_the_lock_row_is_overlap;
  serial = serial_keeps_the_lock_row;
  histories = histories_keep_the_lock_row;
  stopped = a_lock_stops_plain_state_transactions;
}
