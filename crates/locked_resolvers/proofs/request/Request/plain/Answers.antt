-- The versions of a request.
use Rattle.std.proofs.Common.{subst}
use Rattle.locked_resolvers.specs.Requests.{IsRequestFor, RequestView}
use Rattle.locked_resolvers.proofs.ServedRequests.{row_versions}
use Rattle.locked_resolvers.proofs.request.Request.plain.Goals as goal

pub returns-clause-versions : goal.returns-clause-versions
returns-clause-versions g c = row_versions g.N.Naming.cells.config c.args.self.now (subst (λ (v : RequestView). IsRequestFor g.N.Naming.cells.config v) c.self.view_is c.self.invariant.1)
