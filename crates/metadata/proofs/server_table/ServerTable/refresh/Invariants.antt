-- The rows at the keys that are left are still to be read, and can be.
use Rattle.model.specs.Metadata.{entry_value}
use Rattle.metadata.proofs.ServerTables.{AreRefreshing}
use Rattle.metadata.proofs.server_table.ServerTable.refresh.Given as goal

abbrev pub invariant-loop-key : goal.invariant-loop-key
invariant-loop-key l = AreRefreshing l.keys l.key-iterator (entry_value l.entries) l.fn.self.tags l.self
