-- The lists so far, and those to come, are all.
use Rattle.std.proofs.Common.{◌≡◌, ◌+◌, ◌≤◌, drop}
use Rattle.proxy_state.specs.Learning.{count_parts_for}
use Rattle.proxy_state.proofs.disagreements.count_parts_for.Given as goal

abbrev pub invariant-loop-list : goal.invariant-loop-list
invariant-loop-list l = (l.count + count_parts_for l.resolver (drop l.list-index l.lists) ≡ count_parts_for l.resolver l.lists) × (l.count ≤ l.list-index)
