-- There are as many zeros as turns of the loop so far.
use Rattle.std.proofs.Common.{◌≡◌, ◌≤◌, replicate}
use Rattle.turn_world.proofs.starting.list_of_zeros.Given as goal

abbrev pub invariant-loop : goal.invariant-loop
invariant-loop l = (l.made.items ≡ replicate l.counter 0) × (l.counter ≤ l.count)
