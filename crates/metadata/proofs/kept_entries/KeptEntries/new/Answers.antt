-- No entries at all are in order, and kept.
use Rattle.metadata.proofs.KeptInOrder.{none_kept_in_order}
use Rattle.metadata.proofs.kept_entries.KeptEntries.new.Goals as goal

pub invariant_of-result : goal.invariant_of-result
invariant_of-result c = none_kept_in_order c.new.result c.new.ensures
