-- The keys so far, and those of the entries that are left, are the keys listed before and those between the two.
use Rattle.std.proofs.Common.{◌≡◌, ◌++◌, filter}
use Rattle.std.specs.Map.{keys_of}
use Rattle.system_keys.specs.Keys.{holds}
use Rattle.metadata.proofs.entry_map.EntryMap.list_keys_between.Given as goal

abbrev pub invariant-loop-key : goal.invariant-loop-key
invariant-loop-key l =
    l.keys.items ++ keys_of l.key-iterator
    ≡ l.fn.keys.items ++ keys_of (filter (λ entry. holds (record { begin = l.fn.begin; end = l.fn.end }) entry.0) l.self)
