-- As many as were counted so far.
use Rattle.turn_world.specs.Parts.{AreNewResolvers}
use Rattle.turn_world.proofs.starting.new_resolvers.Given as goal

abbrev pub invariant-loop-number : goal.invariant-loop-number
invariant-loop-number l = AreNewResolvers l.config l.number l.made.items
