use Rattle.std.proofs.Common.{length}
use Rattle.scripts.proofs.StreamListLemmas.{SoFar}
use Rattle.scripts.proofs.stream_shapes.take_each.Given as goal

abbrev pub invariant-items : goal.invariant-items
invariant-items g l = SoFar g.X.Shaped.shape l.depth l.initial.reader l.found.items l.reader

abbrev pub decreases-items : goal.decreases-items
decreases-items g l = length l.reader
