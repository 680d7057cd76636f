-- The row at the place is the row at the remaining distance among those that are left.
use Rattle.std.proofs.Common.{◌≡◌, slice_get}
use Rattle.model.specs.Metadata.{key_servers_entries}
use Rattle.metadata.proofs.entry_map.EntryMap.key_servers_row.Given as goal

abbrev pub invariant-loop-key : goal.invariant-loop-key
invariant-loop-key l = slice_get (key_servers_entries l.key-iterator) l.before ≡ slice_get (key_servers_entries l.self) l.place
