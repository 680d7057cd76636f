-- The keys that are left are still to be removed; and the entries are in order if they were.
use Rattle.std.proofs.Common.{◌≡◌, drop, None, if◌then◌else◌}
use Rattle.system_keys.specs.Keys.{Key}
use Rattle.model.specs.Metadata.{IsInOrder, entry_value}
use Rattle.metadata.specs.Overwrites.{is_listed}
use Rattle.metadata.proofs.entry_map.EntryMap.remove_listed.Given as goal

abbrev pub invariant-loop-listed : goal.invariant-loop-listed
invariant-loop-listed l =
    ((key : Key) → (if is_listed (drop l.listed-index l.keys) key then None else entry_value l.self key)
    ≡ (if is_listed l.keys key then None else entry_value l.fn.self key))
    × (IsInOrder l.fn.self → IsInOrder l.self)
