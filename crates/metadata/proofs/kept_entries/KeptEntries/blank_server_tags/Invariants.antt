-- The keys that are left are still to be blanked.
use Rattle.metadata.proofs.BlankedKeys.{AreBlanking}
use Rattle.metadata.proofs.kept_entries.KeptEntries.blank_server_tags.Given as goal

abbrev pub invariant-loop-key : goal.invariant-loop-key
invariant-loop-key l = AreBlanking l.keys l.key-iterator l.fn.self l.self
