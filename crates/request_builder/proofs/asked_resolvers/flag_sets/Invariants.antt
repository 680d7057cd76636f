-- The resolvers of the sets so far are flagged.
use Rattle.std.proofs.Common.{take}
use Rattle.dated_owners.specs.Flags.{Flags}
use Rattle.request_builder.specs.AskedResolvers.{is_in_some}
use Rattle.request_builder.proofs.asked_resolvers.flag_sets.Given as goal

abbrev pub invariant-loop-set : goal.invariant-loop-set
invariant-loop-set l = Flags l.fn.flags (λ r. is_in_some r (take l.set-index l.sets)) l.flags
