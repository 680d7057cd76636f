-- As many as were counted so far.
use Rattle.turn_world.specs.Parts.{AreNewProxies}
use Rattle.turn_world.proofs.starting.new_proxies.Given as goal

abbrev pub invariant-loop-number : goal.invariant-loop-number
invariant-loop-number l = AreNewProxies l.config l.number l.made.items
