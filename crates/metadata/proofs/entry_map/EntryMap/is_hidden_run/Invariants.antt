-- All entries from the first to the last key are hidden if those that are left are; and the keys that are left are hidden ones.
use Rattle.std.proofs.Common.{◌≡◌, true, filter}
use Rattle.std.specs.List.{list_all}
use Rattle.system_keys.specs.Keys.{Key}
use Rattle.metadata.specs.Overwrites.{is_listed}
use Rattle.metadata.proofs.HiddenRuns.{is_from_up_to}
use Rattle.metadata.proofs.entry_map.EntryMap.is_hidden_run.Given as goal

abbrev pub invariant-loop-key : goal.invariant-loop-key
invariant-loop-key l =
    (list_all (λ entry. is_listed l.hidden entry.0) l.key-iterator
    ≡ list_all (λ entry. is_listed l.hidden entry.0) (filter (λ entry. is_from_up_to l.first l.last entry.0) l.self))
    × ((other : Key) → is_listed l.listed other ≡ true → is_listed l.hidden other ≡ true)
