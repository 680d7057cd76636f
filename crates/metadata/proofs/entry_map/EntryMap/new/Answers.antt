-- No entries at all are in order.
use Rattle.metadata.proofs.entry_map.EntryMap.new.Goals as goal

pub invariant_of-result : goal.invariant_of-result
invariant_of-result c = c.new.ensures.ordered
