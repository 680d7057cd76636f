-- The mutations so far, and those of the transactions that are left, are all.
use Rattle.std.proofs.Common.{◌≡◌, ◌++◌, drop, map}
use Rattle.model.specs.World.{tagged_all}
use Rattle.proxy_state.specs.TakenChanges.{without_change}
use Rattle.proxy_state.proofs.outcomes.tag_committed_mutations.Given as goal

abbrev pub invariant-loop-place : goal.invariant-loop-place
invariant-loop-place l = l.labelled.items ++ map without_change (tagged_all l.entries (drop l.place l.batch) (drop l.place l.outcomes)) ≡ map without_change (tagged_all l.entries l.batch l.outcomes)
