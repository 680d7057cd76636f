-- The entries of a map are in order.
use Rattle.std.proofs.Common.{subst}
use Rattle.model.specs.Metadata.{IsInOrder}
use Rattle.metadata.proofs.entry_map.EntryMap.iter.Goals as goal

pub returns-clause-order : goal.returns-clause-order
returns-clause-order c = subst IsInOrder c.self.view_is c.self.invariant
