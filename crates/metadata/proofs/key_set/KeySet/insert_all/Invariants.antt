-- The keys that are left, beside those so far, are all; and they become fewer.
use Rattle.std.proofs.Common.{length}
use Rattle.metadata.proofs.KeySets.{AreAdded}
use Rattle.metadata.proofs.key_set.KeySet.insert_all.Given as goal

abbrev pub invariant-loop-key : goal.invariant-loop-key
invariant-loop-key l = AreAdded l.keys l.rest l.fn.self l.self

abbrev pub decreases-loop-key : goal.decreases-loop-key
decreases-loop-key l = length l.rest
