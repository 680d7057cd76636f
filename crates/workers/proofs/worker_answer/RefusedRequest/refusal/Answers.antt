-- What the type keeps.
use Rattle.std.proofs.Common.{subst}
use Rattle.locked_resolvers.specs.Asking.{IsAskRefusal}
use Rattle.workers.specs.Answers.{RefusedRequestView}
use Rattle.workers.proofs.worker_answer.RefusedRequest.refusal.Goals as goal

pub returns-clause-kept : goal.returns-clause-kept
returns-clause-kept g c =
    subst (λ (v : RefusedRequestView). IsAskRefusal g.N.Naming.cells.config v.request v.refusal) c.self.view_is c.self.invariant
