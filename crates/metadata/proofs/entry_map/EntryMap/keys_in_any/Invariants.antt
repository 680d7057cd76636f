-- The entries in the ranges so far are listed; and each key of the run is in one of these ranges.
use Rattle.std.proofs.Common.{take}
use Rattle.metadata.specs.Overwrites.{lent_ranges}
use Rattle.metadata.proofs.HeldKeys.{AreListed}
use Rattle.metadata.proofs.entry_map.EntryMap.keys_in_any.Given as goal

abbrev pub invariant-loop-range : goal.invariant-loop-range
invariant-loop-range l = AreListed l.from l.up_to (lent_ranges (take l.range-index l.ranges)) l.keys.items l.self
