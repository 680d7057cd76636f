-- What is left has at the key what all have there, and is in order.
use Rattle.std.proofs.Common.{◌≡◌}
use Rattle.model.specs.Metadata.{IsInOrder, entry_value}
use Rattle.metadata.proofs.entry_map.EntryMap.value_at.Given as goal

abbrev pub invariant-loop-found : goal.invariant-loop-found
invariant-loop-found l = record {
  value : entry_value l.found-iterator l.key ≡ entry_value l.self l.key;
  order : IsInOrder l.found-iterator;
}
