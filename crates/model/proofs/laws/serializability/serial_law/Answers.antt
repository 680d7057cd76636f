use Rattle.model.proofs.Serializability.Histories.{history_is_serial}
use Rattle.model.proofs.Serializability.ByKeys.{serial_by_keys}
use Rattle.model.proofs.laws.serializability.serial_law.Goals as goal

pub returns : goal.returns
returns c = record { histories = history_is_serial; keys = serial_by_keys }
