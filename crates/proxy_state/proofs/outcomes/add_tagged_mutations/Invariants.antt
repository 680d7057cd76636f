-- The mutations so far, and those that are left, are all.
use Rattle.std.proofs.Common.{◌≡◌, ◌++◌, drop, map}
use Rattle.model.specs.World.{tagged_from}
use Rattle.proxy_state.specs.TakenChanges.{without_change}
use Rattle.proxy_state.proofs.outcomes.add_tagged_mutations.Given as goal

abbrev pub invariant-loop-place : goal.invariant-loop-place
invariant-loop-place l = l.labelled.items ++ map without_change (tagged_from l.entries l.number l.place (drop l.place l.changes)) ≡ l.fn.labelled.items ++ map without_change (tagged_from l.entries l.number 0 l.changes)
