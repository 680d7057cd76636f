-- The changes so far and those of the entries that are left are all changes.
use Rattle.std.proofs.Common.{◌≡◌, ◌≤◌, ◌+◌, suc, length, []}
use Rattle.std.specs.BTreeMap.{btree_map_len}
use Rattle.dated_owners.specs.Starts.{changes}
use Rattle.dated_owners.proofs.pieces.count_pieces.Given as goal

abbrev pub invariant-loop-key : goal.invariant-loop-key
invariant-loop-key l =
    record {
      counted : l.count + changes l.oldest l.last l.key-iterator ≡ suc (changes l.oldest [] l.pieces.entries);
      fits : l.count + length l.key-iterator ≤ suc (btree_map_len l.pieces);
    }
