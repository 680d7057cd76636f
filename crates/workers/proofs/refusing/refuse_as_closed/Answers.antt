-- The cluster has the resolver, by the types of the request and of what the guard shows.
use Rattle.workers.proofs.RefusedLemmas.{closed_asked}
use Rattle.workers.proofs.refusing.refuse_as_closed.Goals as goal

pub new-requires : goal.new-requires
new-requires g c = closed_asked g.N.Naming.cells.config c.args.request c.number-number.ensures.kept.config_is c.plain-plain.ensures.kept.resolver
