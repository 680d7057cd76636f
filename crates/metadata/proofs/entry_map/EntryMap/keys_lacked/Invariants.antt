-- The keys so far, without those of the entries that are left, are all that the map lacks.
use Rattle.metadata.proofs.KeySets.{AreLacked}
use Rattle.metadata.proofs.entry_map.EntryMap.keys_lacked.Given as goal

abbrev pub invariant-loop-key : goal.invariant-loop-key
invariant-loop-key l = AreLacked l.self l.fn.keys l.keys l.key-iterator
