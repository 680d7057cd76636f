-- The entries that are left, put over the map so far, give what all give; what was displaced takes back what is put; the map is in order if it was; and they become fewer.
use Rattle.std.proofs.Common.{length}
use Rattle.model.specs.Metadata.{Entries, IsInOrder}
use Rattle.metadata.specs.Overwrites.{TakesBack}
use Rattle.metadata.proofs.WrittenEntries.{IsPuttingOver}
use Rattle.metadata.proofs.entry_map.EntryMap.put_each.Given as goal

abbrev pub invariant-loop-key : goal.invariant-loop-key
invariant-loop-key l = record {
  puts : IsPuttingOver l.fn.self l.fn.puts l.self l.rest;
  takes : (before : Entries) → TakesBack l.fn.displaced.items before l.fn.self → TakesBack l.displaced.items before l.self;
  order : IsInOrder l.fn.self → IsInOrder l.self;
}

abbrev pub decreases-loop-key : goal.decreases-loop-key
decreases-loop-key l = length l.rest
