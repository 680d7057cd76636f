-- As many as were counted so far, and nothing is kept of any.
use Rattle.std.proofs.Common.{◌≤◌, ◌-◌, vec_len}
use Rattle.state_memory.specs.Kept.{AreNew}
use Rattle.state_memory.proofs.resolver.new_proxy_memories.Given as goal

abbrev pub invariant-loop-alloc : goal.invariant-loop-alloc
invariant-loop-alloc l = record { new : AreNew (vec_len l.made) l.made.items; up_to : vec_len l.made ≤ l.proxies }

abbrev pub decreases-loop-alloc : goal.decreases-loop-alloc
decreases-loop-alloc l = l.proxies - vec_len l.made
