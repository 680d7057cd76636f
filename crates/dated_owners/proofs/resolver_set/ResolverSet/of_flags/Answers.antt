-- Those from the last one on are not flagged.
use Rattle.dated_owners.proofs.BitFlags.{set_past, set_same}
use Rattle.dated_owners.proofs.resolver_set.ResolverSet.of_flags.Goals as goal

pub invariant_of-result : goal.invariant_of-result
invariant_of-result c = set_past c.args.resolvers c.args.flags c.first.result c.first.ensures

pub returns : goal.returns
returns c = set_same c.args.resolvers c.args.flags c.first.result c.first.ensures
