-- What is left takes back what is still put; and it becomes less.
use Rattle.std.proofs.Common.{length}
use Rattle.model.specs.Metadata.{Entries}
use Rattle.metadata.specs.Overwrites.{TakesBack}
use Rattle.metadata.proofs.entry_map.EntryMap.take_back.Given as goal

abbrev pub invariant-loop-last : goal.invariant-loop-last
invariant-loop-last l = (before : Entries) → TakesBack l.fn.displaced.items before l.fn.self → TakesBack l.displaced.items before l.self

abbrev pub decreases-loop-last : goal.decreases-loop-last
decreases-loop-last l = length l.displaced.items
