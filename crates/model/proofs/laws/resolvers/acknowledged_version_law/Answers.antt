use Rattle.std.proofs.Common.{refl}
use Rattle.model.proofs.Resolvers.Acknowledged.{acknowledged_is, greatest_is_bound, greatest_is_there}
use Rattle.model.proofs.laws.resolvers.acknowledged_version_law.Goals as goal

pub returns : goal.returns
returns c = record {
  requests = acknowledged_is;
  bound = greatest_is_bound;
  there = greatest_is_there;
  none = refl;
}
