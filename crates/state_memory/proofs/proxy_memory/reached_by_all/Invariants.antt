-- The least of this and of what is to come is the least of all.
use Rattle.std.proofs.Common.{◌≡◌, drop}
use Rattle.model.specs.ResolverMemory.{reached_by_all}
use Rattle.state_memory.specs.Kept.{all_kept}
use Rattle.state_memory.proofs.KeptLaws.{least_with}
use Rattle.state_memory.proofs.proxy_memory.reached_by_all.Given as goal

abbrev pub invariant-loop-one : goal.invariant-loop-one
invariant-loop-one l = least_with l.least (drop l.one-index l.proxies) ≡ reached_by_all (all_kept l.proxies)
