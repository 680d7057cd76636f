-- The keys so far, and those of the serverTag entries that are left, are all.
use Rattle.metadata.proofs.ServerTables.{AreKeysSoFar}
use Rattle.metadata.proofs.entry_map.EntryMap.server_tag_keys.Given as goal

abbrev pub invariant-loop-key : goal.invariant-loop-key
invariant-loop-key l = AreKeysSoFar l.self l.key-iterator l.keys
