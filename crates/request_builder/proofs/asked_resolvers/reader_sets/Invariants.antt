-- The ranges so far have their sets.
use Rattle.std.proofs.Common.{take}
use Rattle.request_builder.specs.AskedResolvers.{AreReaderLists}
use Rattle.request_builder.proofs.asked_resolvers.reader_sets.Given as goal

abbrev pub invariant-loop-range : goal.invariant-loop-range
invariant-loop-range l = AreReaderLists l.oldest l.owners l.snapshot (take l.range-index l.ranges) l.sets.items
