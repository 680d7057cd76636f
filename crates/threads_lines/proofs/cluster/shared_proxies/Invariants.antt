-- The proxies so far stand in the places of their numbers.
use Rattle.std.proofs.Common.{◌≡◌, length}
use Rattle.threads_lines.specs.Threads.{AreInPlace}
use Rattle.threads_lines.proofs.cluster.shared_proxies.Given as goal

abbrev pub invariant-loop-number : goal.invariant-loop-number
invariant-loop-number g l = record {
  count : length l.proxies.items ≡ l.number;
  in_place : AreInPlace l.proxies.items;
}
