-- The lists so far are those of the transactions so far.
use Rattle.std.proofs.Common.{◌≡◌, map, take}
use Rattle.request_builder.specs.AskedResolvers.{asked_by}
use Rattle.request_builder.proofs.asked_resolvers.asked_lists.Given as goal

abbrev pub invariant-loop-asking : goal.invariant-loop-asking
invariant-loop-asking l = l.lists.items ≡ map (asked_by l.owners.resolvers) (take l.asking-index l.askings)
