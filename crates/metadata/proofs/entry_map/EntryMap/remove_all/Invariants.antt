-- The entries at the keys that are left are still to be removed; and the entries are in order if they were.
use Rattle.model.specs.Metadata.{IsInOrder}
use Rattle.metadata.proofs.EntriesLeft.{AreRemoved}
use Rattle.metadata.proofs.entry_map.EntryMap.remove_all.Given as goal

abbrev pub invariant-loop-key : goal.invariant-loop-key
invariant-loop-key l = AreRemoved l.keys l.key-iterator l.fn.self l.self × (IsInOrder l.fn.self → IsInOrder l.self)
