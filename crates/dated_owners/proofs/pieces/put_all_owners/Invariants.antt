-- The owners that are left are to be put at keys at which pieces begin, and give what all give.
use Rattle.std.proofs.Common.{◌≡◌, length}
use Rattle.std.specs.Vec.Iter.{into_iter_items, into_iter_len}
use Rattle.dated_owners.specs.Starts.{put_all_owners, AreStarts}
use Rattle.dated_owners.proofs.pieces.put_all_owners.Given as goal

abbrev pub invariant-loop-key : goal.invariant-loop-key
invariant-loop-key l =
    record {
      put : AreStarts l.fn.grown.items l.fn.pieces.entries
          → AreStarts (into_iter_items l.key-iterator) l.pieces.entries
          × (put_all_owners l.pieces.entries (into_iter_items l.key-iterator) ≡ put_all_owners l.fn.pieces.entries l.fn.grown.items);
      count : into_iter_len l.key-iterator ≡ length (into_iter_items l.key-iterator);
    }
