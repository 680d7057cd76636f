-- The numbers so far are those of the resolvers so far that are flagged.
use Rattle.std.proofs.Common.{◌≡◌, filter}
use Rattle.model.specs.Shares.{each_below}
use Rattle.dated_owners.specs.Flags.{is_flagged}
use Rattle.dated_owners.proofs.flags.ResolverFlags.list.Given as goal

abbrev pub invariant-loop-resolver : goal.invariant-loop-resolver
invariant-loop-resolver l = l.list.items ≡ filter (is_flagged l.self) (each_below l.resolver)
