-- The ranges so far have their sets.
use Rattle.std.proofs.Common.{take}
use Rattle.request_builder.specs.AskedResolvers.{AreWriterLists}
use Rattle.request_builder.proofs.asked_resolvers.writer_sets.Given as goal

abbrev pub invariant-loop-range : goal.invariant-loop-range
invariant-loop-range l = AreWriterLists l.owners (take l.range-index l.ranges) l.sets.items
