-- Whom the map's own moves ask, each list of moves asks as which it asks.
use Rattle.std.proofs.Common.{◌∙◌}
use Rattle.model.proofs.Owners.Asking.{asked_writers}
use Rattle.dated_owners.proofs.owner_map.OwnerMap.writers.Goals as goal

pub returns : goal.returns
returns c = λ moves asks. c.resolvers_on_walk.ensures ∙ asked_writers c.args.self.now moves c.args.range.now asks
