-- There are as many copies as turns of the loop so far.
use Rattle.std.proofs.Common.{◌≡◌, replicate}
use Rattle.locked_cluster.proofs.proxies.begun.copies_of_records.Given as goal

abbrev pub invariant-loop : goal.invariant-loop
invariant-loop g l = l.copies.items ≡ replicate l.counter l.records
